use Rattle.std.proofs.Common.{◌<◌, [], ◌∷◌, sym, ap, ap₂, subst, ◌∙◌, IsSome, arith}
use Rattle.std.specs.List.{All}
use Rattle.std.proofs.lemmas.List.Elements.{All-cons, All-nil}
use Rattle.pl_term.specs.Tree.{more, none}
use Rattle.builtin_rows.proofs.Balls.{one_place, two_places}
use Rattle.world_builtins.specs.Naming.{IsHeldAt, atoms_in}
use Rattle.world_builtins.specs.Spelling.{reads, spelled, text_of}
use Rattle.shared_builtins.specs.Goals.{arity_of}
use Rattle.shared_builtins.proofs.Faulting.{three_places}
use Rattle.shared_builtins.proofs.GoalTerms.{arity_some, held_in, one_answer_is, three_answer, two_answer}
use Rattle.shared_builtins.proofs.rows.others_of.Goals as goal

pub returns-in-One : goal.returns-in-One
returns-in-One c m n held =
    let s = c.args.store.now in
    let x = c.args.goal.now in
    record {
      terms = λ t g same. one_answer_is m n.stands s x c.requires c.in-One.field-0 (reads m t g) c.in-One.is;
      placed = λ t g same inside hg held. record { inside = one_place t g hg; held = All-cons (IsHeldAt m t) g [] held (All-nil (IsHeldAt m t)) };
    }

pub returns-in-Two : goal.returns-in-Two
returns-in-Two c m n held =
    let s = c.args.store.now in
    let x = c.args.goal.now in
    let is = c.requires in
    let p = c.argument-first.result in
    let first = c.argument-first.ensures in
    let hp = held_in m n.stands s x is held 0 p (arity_some x.pred) first.stands in
    record {
      terms = λ t g same.
          ap (λ u. more (spelled (text_of m) u) (more (reads m t g) none)) (same p first.holds)
          ∙ two_answer m n.stands s x is c.in-Two.field-0 p (reads m t g) c.in-Two.is first.stands;
      placed = λ t g same inside hg held.
          record {
            inside = two_places t p g (inside p first.holds) hg;
            held =
                All-cons (IsHeldAt m t) p (g ∷ []) (subst (λ u. All (λ a. IsSome (m a)) (atoms_in u)) (sym (same p first.holds)) hp)
                (All-cons (IsHeldAt m t) g [] held (All-nil (IsHeldAt m t)));
          };
    }

pub returns-in-Three : goal.returns-in-Three
returns-in-Three c m n held =
    let s = c.args.store.now in
    let x = c.args.goal.now in
    let is = c.requires in
    let p = c.argument-first-in-Three.result in
    let q = c.argument-third.result in
    let first = c.argument-first-in-Three.ensures in
    let third = c.argument-third.ensures in
    let two : 2 < arity_of x.pred = subst (λ a. 2 < arity_of a) (sym c.in-Three.is) (omega arith) in
    let hp = held_in m n.stands s x is held 0 p (arity_some x.pred) first.stands in
    let hq = held_in m n.stands s x is held 2 q two third.stands in
    record {
      terms = λ t g same.
          ap₂ (λ u v. more (spelled (text_of m) u) (more (reads m t g) (more (spelled (text_of m) v) none))) (same p first.holds) (same q third.holds)
          ∙ three_answer m n.stands s x is c.in-Three.field-0 p q (reads m t g) c.in-Three.is first.stands third.stands;
      placed = λ t g same inside hg held.
          record {
            inside = three_places t p g q (inside p first.holds) hg (inside q third.holds);
            held =
                All-cons (IsHeldAt m t) p (g ∷ (q ∷ [])) (subst (λ u. All (λ a. IsSome (m a)) (atoms_in u)) (sym (same p first.holds)) hp)
                (All-cons (IsHeldAt m t) g (q ∷ []) held
                (All-cons (IsHeldAt m t) q [] (subst (λ u. All (λ a. IsSome (m a)) (atoms_in u)) (sym (same q third.holds)) hq) (All-nil (IsHeldAt m t))));
          };
    }
