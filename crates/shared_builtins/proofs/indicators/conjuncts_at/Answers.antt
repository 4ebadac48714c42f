use Rattle.std.proofs.Common.{◌≡◌, ◌++◌, ◌∷◌, [], sym, ap, subst, ◌∙◌, arith}
use Rattle.std.specs.List.{All}
use Rattle.std.proofs.lemmas.List.Elements.{All-cons, All-nil}
use Rattle.term_store.specs.Contents.{Holds}
use Rattle.term_store.proofs.Occurring.{popped}
use Rattle.world_builtins.specs.Naming.{IsHeldAt}
use Rattle.world_builtins.specs.Spelling.{reads}
use Rattle.shared_builtins.specs.Indicators.{joined}
use Rattle.shared_builtins.proofs.Indicating.{empty_of, joined_first, joined_last}
use Rattle.shared_builtins.proofs.indicators.conjuncts_at.Goals as goal

pub loop-init : goal.loop-init
loop-init c =
    let s = c.args.store.now in
    let t = c.args.term in
    let only : c.push.new.self.items ≡ t ∷ [] = c.in_ok-push.ensures.items ∙ ap (λ l. l ++ t ∷ []) c.new-left.ensures.items in
    record {
      all = subst (All (Holds s)) (sym c.new-all.ensures.items) (All-nil (Holds s));
      left = subst (All (Holds s)) (sym only) (All-cons (Holds s) t [] c.requires (All-nil (Holds s)));
      read = λ m n held. (
        joined_first (reads m s) c.new-all.result.items c.push.new.self.items t c.new-all.ensures.items only,
        (
          subst (All (IsHeldAt m s)) (sym c.new-all.ensures.items) (All-nil (IsHeldAt m s)),
          subst (All (IsHeldAt m s)) (sym only) (All-cons (IsHeldAt m s) t [] held (All-nil (IsHeldAt m s))),
        ),
      );
    }

pub take_conjunct-requires-clause-next : goal.take_conjunct-requires-clause-next
take_conjunct-requires-clause-next c =
    (popped (Holds c.args.store.now) c.loop.left.items c.pop.new.self.items c.in-Some.next c.in-Some.ensures.items c.loop.invariant.left).1

pub take_conjunct-requires-clause-left : goal.take_conjunct-requires-clause-left
take_conjunct-requires-clause-left c =
    (popped (Holds c.args.store.now) c.loop.left.items c.pop.new.self.items c.in-Some.next c.in-Some.ensures.items c.loop.invariant.left).0

pub loop-preserved : goal.loop-preserved
loop-preserved c =
    let s = c.args.store.now in
    record {
      all = c.in_ok-take_conjunct.ensures.all;
      left = c.in_ok-take_conjunct.ensures.left;
      read = λ m n held.
          let i = c.loop.invariant.read m n held in
          let both = popped (IsHeldAt m s) c.loop.left.items c.pop.new.self.items c.in-Some.next c.in-Some.ensures.items i.1.1 in (
            i.0 ∙ ap (joined (reads m s) c.loop.all.items) c.in-Some.ensures.items ∙ sym (c.in_ok-take_conjunct.ensures.read m n both.1),
            (c.in_ok-take_conjunct.ensures.all_held m n both.1 i.1.0, c.in_ok-take_conjunct.ensures.left_held m n both.1 both.0),
          );
    }

pub returns-in_default-clause-read : goal.returns-in_default-clause-read
returns-in_default-clause-read c m n held =
    let i = c.loop.invariant.read m n held in
    (i.0 ∙ joined_last (reads m c.args.store.now) c.loop.all.items c.loop.left.items (empty_of c.loop.left.items (omega (arith, c.in_default.ensures.cases.0, c.loop.left.ok.0))), i.1.0)
