use Rattle.std.proofs.Common.{◌<◌, [], ◌∷◌, sym, subst, arith}
use Rattle.std.proofs.lemmas.List.Elements.{All-cons, All-nil}
use Rattle.builtin_rows.proofs.Balls.{two_places}
use Rattle.world_builtins.specs.Naming.{IsHeldAt}
use Rattle.world_builtins.specs.Spelling.{reads}
use Rattle.shared_builtins.specs.Goals.{arity_of}
use Rattle.shared_builtins.proofs.Faulting.{three_places}
use Rattle.shared_builtins.proofs.GoalTerms.{arity_some, held_in, three_answer, two_answer}
use Rattle.shared_builtins.proofs.rows.answer.Goals as goal

pub returns-in-Two : goal.returns-in-Two
returns-in-Two c m n held given =
    let s = c.args.store.now in
    let x = c.args.goal.now in
    let is = c.requires.goal in
    let p = c.argument-first.result in
    let H = IsHeldAt m s in
    let hp = held_in m n.stands s x is held 0 p (arity_some x.pred) c.argument-first.ensures.stands in (
      two_answer m n.stands s x is c.in-Two.field-0 p (reads m s c.args.given) c.in-Two.is c.argument-first.ensures.stands,
      record {
        inside = two_places s p c.args.given c.argument-first.ensures.holds c.requires.given;
        held = All-cons H p (c.args.given ∷ []) hp (All-cons H c.args.given [] given (All-nil H));
      },
    )

pub returns-in-Three : goal.returns-in-Three
returns-in-Three c m n held given =
    let s = c.args.store.now in
    let x = c.args.goal.now in
    let is = c.requires.goal in
    let p = c.argument-first-in-Three.result in
    let q = c.argument-third.result in
    let H = IsHeldAt m s in
    let two : 2 < arity_of x.pred = subst (λ a. 2 < arity_of a) (sym c.in-Three.is) (omega arith) in
    let hp = held_in m n.stands s x is held 0 p (arity_some x.pred) c.argument-first-in-Three.ensures.stands in
    let hq = held_in m n.stands s x is held 2 q two c.argument-third.ensures.stands in (
      three_answer m n.stands s x is c.in-Three.field-0 p q (reads m s c.args.given) c.in-Three.is c.argument-first-in-Three.ensures.stands c.argument-third.ensures.stands,
      record {
        inside = three_places s p c.args.given q c.argument-first-in-Three.ensures.holds c.requires.given c.argument-third.ensures.holds;
        held = All-cons H p (c.args.given ∷ (q ∷ [])) hp (All-cons H c.args.given (q ∷ []) given (All-cons H q [] hq (All-nil H)));
      },
    )
