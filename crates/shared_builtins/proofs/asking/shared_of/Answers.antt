use Rattle.std.proofs.Common.{◌<◌, sym, subst, arith}
use Rattle.pl_term.specs.Tree.{more, none}
use Rattle.world_builtins.specs.Spelling.{reads}
use Rattle.shared_builtins.specs.Goals.{arity_of}
use Rattle.shared_builtins.specs.Shared.{one_comes, three_comes, two_comes}
use Rattle.shared_builtins.proofs.GoalTerms.{arity_some, held_in, one_shared, shared_by, three_shared, two_shared}
use Rattle.shared_builtins.proofs.asking.shared_of.Goals as goal

pub returns-in_ok-shared-in-One-clause-shares : goal.returns-in_ok-shared-in-One-clause-shares
returns-in_ok-shared-in-One-clause-shares c m tells held =
    let s = c.args.store.now in
    let x = c.args.goal.now in
    let f = tells.naming.stands in
    let p = c.argument-first.result in
    let e = one_shared m f s x c.requires c.in-One.pred p c.in-One.is c.argument-first.ensures.stands in
    shared_by m f s x c.requires (more (reads m s p) none) (one_comes c.in-One.pred (reads m s p)) e.0 e.1 c.in_ok-shared-in-One.shared
    (c.in_ok-shared-in-One.ensures.comes m tells (held_in m f s x c.requires held 0 p (arity_some x.pred) c.argument-first.ensures.stands))

pub returns-in_ok-shared-in-Two-clause-shares : goal.returns-in_ok-shared-in-Two-clause-shares
returns-in_ok-shared-in-Two-clause-shares c m tells held =
    let s = c.args.store.now in
    let x = c.args.goal.now in
    let f = tells.naming.stands in
    let p = c.argument-first-in-Two.result in
    let q = c.argument-second.result in
    let e = two_shared m f s x c.requires c.in-Two.pred p q c.in-Two.is c.argument-first-in-Two.ensures.stands c.argument-second.ensures.stands in
    let one : 1 < arity_of x.pred = subst (λ a. 1 < arity_of a) (sym c.in-Two.is) (omega arith) in
    shared_by m f s x c.requires (more (reads m s p) (more (reads m s q) none)) (two_comes c.in-Two.pred (reads m s p) (reads m s q)) e.0 e.1 c.in_ok-shared-in-Two.shared
    (c.in_ok-shared-in-Two.ensures m tells.naming (held_in m f s x c.requires held 0 p (arity_some x.pred) c.argument-first-in-Two.ensures.stands)
    (held_in m f s x c.requires held 1 q one c.argument-second.ensures.stands))

pub returns-in_ok-shared-in-Three-clause-shares : goal.returns-in_ok-shared-in-Three-clause-shares
returns-in_ok-shared-in-Three-clause-shares c m tells held =
    let s = c.args.store.now in
    let x = c.args.goal.now in
    let f = tells.naming.stands in
    let p = c.argument-first-in-Three.result in
    let q = c.argument-second-in-Three.result in
    let r = c.argument-third.result in
    let e = three_shared m f s x c.requires c.in-Three.pred p q r c.in-Three.is c.argument-first-in-Three.ensures.stands c.argument-second-in-Three.ensures.stands
    c.argument-third.ensures.stands in
    let one : 1 < arity_of x.pred = subst (λ a. 1 < arity_of a) (sym c.in-Three.is) (omega arith) in
    let two : 2 < arity_of x.pred = subst (λ a. 2 < arity_of a) (sym c.in-Three.is) (omega arith) in
    shared_by m f s x c.requires (more (reads m s p) (more (reads m s q) (more (reads m s r) none))) (three_comes c.in-Three.pred (reads m s p) (reads m s q) (reads m s r)) e.0 e.1
    c.in_ok-shared-in-Three.shared
    (c.in_ok-shared-in-Three.ensures.comes m tells.naming (held_in m f s x c.requires held 0 p (arity_some x.pred) c.argument-first-in-Three.ensures.stands)
    (held_in m f s x c.requires held 1 q one c.argument-second-in-Three.ensures.stands) (held_in m f s x c.requires held 2 r two c.argument-third.ensures.stands))
