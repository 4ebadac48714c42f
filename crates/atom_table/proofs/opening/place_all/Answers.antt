use Rattle.std.proofs.Common.{ℕ, ◌++◌, List, [], ◌∷◌, map, take, refl, sym, ap, ◌∙◌, subst, arith, take_all}
use Rattle.pl_term.specs.Tree.{Chars}
use Rattle.atom_words.specs.Chains.{In}
use Rattle.atom_words.specs.Seats.{seen}
use Rattle.atom_words.specs.declared.view.Held.{Held}
use Rattle.atom_words.specs.declared.view.View.{View}
use Rattle.atom_words.proofs.Slices.{in_none}
use Rattle.bucket_rows.specs.Walks.{spelled}
use Rattle.atom_table.specs.Opening.{fixed_slot}
use Rattle.atom_table.proofs.Settling.{stays_refl, stays_trans, walking_stays, sits_placed, low_placed, slots_more}
use Rattle.atom_table.proofs.opening.place_all.Goals as goal

pub loop-row-init : goal.loop-row-init
loop-row-init c = record {
  same = (refl, refl);
  sits = c.requires.sits;
  stays = stays_refl (seen c.args.seat.now);
  held = c.requires.none;
  low = λ a i. absurd (in_none a (subst (In a) c.requires.none i));
}

pub place_fixed-requires-clause-fits : goal.place_fixed-requires-clause-fits
place_fixed-requires-clause-fits c = c.loop-row.invariant.sits.0

pub place_fixed-requires-clause-none : goal.place_fixed-requires-clause-none
place_fixed-requires-clause-none c = c.loop-row.invariant.sits.1

pub place_fixed-requires-clause-walking : goal.place_fixed-requires-clause-walking
place_fixed-requires-clause-walking c = walking_stays (seen c.args.seat.now) (seen c.loop-row.seat) c.loop-row.invariant.stays c.requires.walking

pub loop-row-preserved : goal.loop-row-preserved
loop-row-preserved c = let i : ℕ = c.loop-row.row-index in let xs : List (ℕ × Chars) = c.deref-row-items.result.now in let r : ℕ × Chars = c.row-item.result in let k : ℕ = c.slot.result in let inv = c.loop-row.invariant in
    let v : View = seen c.loop-row.seat in let w : View = seen c.place_fixed.new.seat in let p = c.in_ok-place_fixed.ensures.placed in let f = c.in_ok-place_fixed.ensures.fixed in record {
      same = (c.place_fixed.ensures.same.0 ∙ inv.same.0, c.place_fixed.ensures.same.1 ∙ inv.same.1);
      sits = sits_placed c.args.words.now c.loop-row.seat c.place_fixed.new.seat k r.1 c.place_fixed.ensures.same p f.1 f.2 inv.sits;
      stays = stays_trans (seen c.args.seat.now) v w inv.stays p.stays;
      held = p.held ∙ (ap (λ (l : List Held). l ++ record { slot = k; text = spelled r.1 } ∷ []) inv.held
          ∙ (ap (λ (j : ℕ). map fixed_slot (take i xs) ++ record { slot = j; text = spelled r.1 } ∷ []) c.slot.ensures ∙ sym (slots_more xs i r c.loop-row-test.true c.row-item.is)));
      low = low_placed (spelled r.1) k v w p f.0 inv.low;
    }

pub returns-in_err-place_fixed-clause-same : goal.returns-in_err-place_fixed-clause-same
returns-in_err-place_fixed-clause-same c = (c.place_fixed.ensures.same.0 ∙ c.loop-row.invariant.same.0, c.place_fixed.ensures.same.1 ∙ c.loop-row.invariant.same.1)

pub returns-clause-same : goal.returns-clause-same
returns-clause-same c = c.loop-row.invariant.same

pub returns-clause-sits : goal.returns-clause-sits
returns-clause-sits c = c.loop-row.invariant.sits

pub returns-clause-stays : goal.returns-clause-stays
returns-clause-stays c = c.loop-row.invariant.stays

pub returns-clause-held : goal.returns-clause-held
returns-clause-held c = (c.loop-row.invariant.held ∙ ap (map fixed_slot) (take_all c.loop-row.row-index c.deref-row-items.result.now (omega (arith, c.loop-row-test.false)) ∙ (c.deref-row-items.ensures.value ∙ c.in_ok-rows.ensures)), c.loop-row.invariant.low)
