use Rattle.std.proofs.Common.{◌≡◌, ℕ, suc, ◌<◌, ◌-◌, ◌+◌, ◌∷◌, length, sym, ap, ◌∙◌, subst, arith, add-one}
use Rattle.atom_table.specs.Opening.{FreshFrom, Source}
use Rattle.atom_table.proofs.Settling.{source_dealt, fresh_dealt, fresh_more}
use Rattle.atom_table.proofs.opening.deal_all.Goals as goal

pub loop-i-preserved : goal.loop-i-preserved
loop-i-preserved c = let words = c.args.words.now in let n : ℕ = c.args.engines in let i : ℕ = c.loop-i.i in let low : i < n = c.loop-i-test.true in let inv = c.loop-i.invariant in let one : n - i - 1 ≡ n - (i + 1) = omega arith in
    let items : c.insert.new.self.items ≡ c.split_engine_seat-seat.result ∷ c.loop-i.seats.items = c.in_ok-insert.ensures.items in record {
      source = subst (λ (k : ℕ). Source words k c.split_engine_seat-seat.new.seat) one (source_dealt words (n - i) c.loop-i.first c.split_engine_seat-seat.new.seat c.split_engine_seat-seat.ensures.same c.split_engine_seat-seat.ensures.left inv.source);
      many = ap length items ∙ (ap suc inv.many ∙ sym (add-one i));
      fresh = subst (FreshFrom words (n - (i + 1) + 1)) (sym items) (fresh_more words n i c.split_engine_seat-seat.result c.loop-i.seats.items low (fresh_dealt words (n - i) c.loop-i.first c.split_engine_seat-seat.result c.split_engine_seat-seat.ensures.right.0 c.split_engine_seat-seat.ensures.right.1 inv.source) inv.fresh);
    }

pub split_engine_seat-seat-requires-clause-none : goal.split_engine_seat-seat-requires-clause-none
split_engine_seat-seat-requires-clause-none c = c.loop-i.invariant.source.held
