use Rattle.std.proofs.Common.{◌∷◌, [], ◌++◌, ◌≤◌, length, refl, sym, ap, subst, ◌∙◌, arith}
use Rattle.std.specs.List.{All}
use Rattle.term_store.specs.declared.words.Pair.{Pair}
use Rattle.term_store.specs.Cells.{heap_of}
use Rattle.term_store.specs.Entering.{IsFacing, IsKnown, weights}
use Rattle.term_store.specs.Rests.{AreRests, Stepped, Steps, StepsAt, no_rest, pair_at, pairs_of, rest_after}
use Rattle.term_store.proofs.Extending.{extends_then}
use Rattle.term_store.proofs.Heading.{Reached, reached_all, reached_never, reached_start}
use Rattle.term_store.proofs.Knowing.{known_none}
use Rattle.term_store.proofs.Occurring.{popped}
use Rattle.term_store.proofs.Weighing.{weights-append}
use Rattle.term_store.proofs.Resting.{hand_off, hand_on, no_rests, none_taken, reached_step, rests_after, step_lighter, taken}
use Rattle.term_store.proofs.enter.meet_head.Goals as goal

pub meet_goal-requires-clause-known : goal.meet_goal-requires-clause-known
meet_goal-requires-clause-known c =
    let h = heap_of c.args.cells.now in
    subst (IsKnown h c.args.from) (sym c.clear.ensures.items) (known_none h c.args.from [] refl c.requires.above)

pub meet_goal-requires-clause-few : goal.meet_goal-requires-clause-few
meet_goal-requires-clause-few c = subst (λ ks. length ks ≤ c.args.block.now.variables) (sym c.clear.ensures.items) (omega arith)

pub returns-in_default-clause-enters : goal.returns-in_default-clause-enters
returns-in_default-clause-enters c =
    let b = c.args.block.now in
    let h = heap_of c.args.cells.now in
    let p : Pair = record { left = c.args.goal; right = b.head } in
    let known = c.clear.new.self.items in
    let rests = c.clear-2.new.self.items in
    let before = pairs_of h.args b.args.items (rests ++ no_rest ∷ []) in
    reached_never b h c.args.from p.left p.right h known before (before ++ p ∷ []) p
    (reached_start b h c.args.from p known (before ++ p ∷ []) c.clear.ensures.items
    (ap (λ rs. pairs_of h.args b.args.items (rs ++ no_rest ∷ []) ++ p ∷ []) c.clear-2.ensures.items) (known_none h c.args.from [] refl c.requires.above) c.requires.facing)
    refl
    (subst (λ r. Steps r b h c.args.from known p.left p.right rests no_rest (heap_of c.meet_goal.new.cells) c.meet_goal.new.known.items c.meet_goal.new.rests.items)
    c.in_default.is c.in_ok-started.ensures.steps)

pub loop-now-init : goal.loop-now-init
loop-now-init c =
    let b = c.args.block.now in
    let h = heap_of c.args.cells.now in
    let e = heap_of c.meet_goal.new.cells in
    let p : Pair = record { left = c.args.goal; right = b.head } in
    let from = c.args.from in
    let known = c.clear.new.self.items in
    let rests = c.clear-2.new.self.items in
    let after = c.meet_goal.new.known.items in
    let left = c.meet_goal.new.rests.items in
    let first = c.in-Some.first in
    let before = pairs_of h.args b.args.items (rests ++ no_rest ∷ []) in
    let start : Reached b h from p.left p.right h known (before ++ p ∷ []) =
    reached_start b h from p known (before ++ p ∷ []) c.clear.ensures.items
    (ap (λ rs. pairs_of h.args b.args.items (rs ++ no_rest ∷ []) ++ p ∷ []) c.clear-2.ensures.items) (known_none h from [] refl c.requires.above) c.requires.facing in
    let none : AreRests h b rests no_rest = subst (λ rs. AreRests h b rs no_rest) (sym c.clear-2.ensures.items) (no_rests h b) in
    let stepped : Stepped b h from known p.left p.right rests no_rest e after left first =
    subst (λ r. Steps r b h from known p.left p.right rests no_rest e after left) c.in-Some.is c.in_ok-started.ensures.steps in
    record {
      fit = c.meet_goal.ensures.fit;
      extends = c.meet_goal.ensures.extends;
      rests = rests_after b h from known p.left p.right rests no_rest e after left first none c.meet_goal.ensures.extends stepped;
      reached = reached_step b h from p.left p.right h known rests no_rest p e after left first start none c.meet_goal.ensures.extends stepped;
    }

pub returns-clause-enters : goal.returns-clause-enters
returns-clause-enters c =
    let b = c.args.block.now in
    let d = heap_of c.loop-now.cells in
    let rests = c.loop-now.entry.rests.items in
    reached_all b (heap_of c.args.cells.now) c.args.from c.args.goal b.head d c.loop-now.entry.known.items
    (pairs_of d.args b.args.items (rests ++ c.loop-now.rest ∷ [])) c.loop-now.invariant.reached
    (none_taken d b rests c.loop-now.rest c.take_next.new.rests.items c.in_default-take_next.ensures)

pub meet_at-requires-clause-some : goal.meet_at-requires-clause-some
meet_at-requires-clause-some c =
    (taken (heap_of c.loop-now.cells) c.args.block.now c.loop-now.entry.rests.items c.loop-now.rest c.take_next.new.rests.items c.in-Some-take_next.now c.loop-now.invariant.rests
    c.in-Some-take_next.ensures).some

pub meet_at-requires-clause-rest : goal.meet_at-requires-clause-rest
meet_at-requires-clause-rest c =
    (taken (heap_of c.loop-now.cells) c.args.block.now c.loop-now.entry.rests.items c.loop-now.rest c.take_next.new.rests.items c.in-Some-take_next.now c.loop-now.invariant.rests
    c.in-Some-take_next.ensures).kept.hand

pub meet_at-requires-clause-facing : goal.meet_at-requires-clause-facing
meet_at-requires-clause-facing c =
    let b = c.args.block.now in
    let d = heap_of c.loop-now.cells in
    let rests = c.take_next.new.rests.items in
    let now = c.in-Some-take_next.now in
    let m = pair_at d.args b.args.items now in
    let before = pairs_of d.args b.args.items (rests ++ rest_after now ∷ []) in
    let t = taken d b c.loop-now.entry.rests.items c.loop-now.rest rests now c.loop-now.invariant.rests c.in-Some-take_next.ensures in
    (popped (IsFacing d b) (before ++ m ∷ []) before m refl
    (subst (All (IsFacing d b)) (t.pairs ∙ hand_off d b rests now t.some t.kept) c.loop-now.invariant.reached.facing)).1

pub returns-in_err-met-clause-extends : goal.returns-in_err-met-clause-extends
returns-in_err-met-clause-extends c =
    extends_then (heap_of c.args.cells.now) (heap_of c.loop-now.cells) (heap_of c.meet_at.new.cells) c.loop-now.invariant.extends c.meet_at.ensures.extends

pub returns-in_default-met-clause-extends : goal.returns-in_default-met-clause-extends
returns-in_default-met-clause-extends c =
    extends_then (heap_of c.args.cells.now) (heap_of c.loop-now.cells) (heap_of c.meet_at.new.cells) c.loop-now.invariant.extends c.meet_at.ensures.extends

pub returns-in_default-met-clause-enters : goal.returns-in_default-met-clause-enters
returns-in_default-met-clause-enters c =
    let b = c.args.block.now in
    let h = heap_of c.args.cells.now in
    let d = heap_of c.loop-now.cells in
    let from = c.args.from in
    let known = c.loop-now.entry.known.items in
    let rests = c.take_next.new.rests.items in
    let now = c.in-Some-take_next.now in
    let m = pair_at d.args b.args.items now in
    let before = pairs_of d.args b.args.items (rests ++ rest_after now ∷ []) in
    let t = taken d b c.loop-now.entry.rests.items c.loop-now.rest rests now c.loop-now.invariant.rests c.in-Some-take_next.ensures in
    let reached : Reached b h from c.args.goal b.head d known (before ++ m ∷ []) =
    subst (λ ps. Reached b h from c.args.goal b.head d known ps) (t.pairs ∙ hand_off d b rests now t.some t.kept) c.loop-now.invariant.reached in
    reached_never b h from c.args.goal b.head d known before (before ++ m ∷ []) m reached refl
    (subst (λ q. StepsAt q b d from known rests now (heap_of c.meet_at.new.cells) c.meet_at.new.known.items c.meet_at.new.rests.items) c.in_default-met.is
    c.in_ok-met.ensures.steps)

pub loop-now-preserved : goal.loop-now-preserved
loop-now-preserved c =
    let b = c.args.block.now in
    let h = heap_of c.args.cells.now in
    let d = heap_of c.loop-now.cells in
    let e = heap_of c.meet_at.new.cells in
    let from = c.args.from in
    let known = c.loop-now.entry.known.items in
    let after = c.meet_at.new.known.items in
    let rests = c.take_next.new.rests.items in
    let left = c.meet_at.new.rests.items in
    let now = c.in-Some-take_next.now in
    let rest = c.in-Some-met.after in
    let m = pair_at d.args b.args.items now in
    let before = pairs_of d.args b.args.items (rests ++ rest_after now ∷ []) in
    let t = taken d b c.loop-now.entry.rests.items c.loop-now.rest rests now c.loop-now.invariant.rests c.in-Some-take_next.ensures in
    let reached : Reached b h from c.args.goal b.head d known (before ++ m ∷ []) =
    subst (λ ps. Reached b h from c.args.goal b.head d known ps) (t.pairs ∙ hand_off d b rests now t.some t.kept) c.loop-now.invariant.reached in
    let on : AreRests d b rests (rest_after now) = hand_on d b rests now t.some t.kept in
    let stepped : Stepped b d from known m.left m.right rests (rest_after now) e after left rest =
    subst (λ q. StepsAt q b d from known rests now e after left) c.in-Some-met.is c.in_ok-met.ensures.steps in
    record {
      fit = c.meet_at.ensures.fit;
      extends = extends_then h d e c.loop-now.invariant.extends c.meet_at.ensures.extends;
      rests = rests_after b d from known m.left m.right rests (rest_after now) e after left rest on c.meet_at.ensures.extends stepped;
      reached =
          reached_step b h from c.args.goal b.head d known rests (rest_after now) m e after left rest reached on c.meet_at.ensures.extends stepped;
    }

pub loop-now-smaller : goal.loop-now-smaller
loop-now-smaller c =
    let b = c.args.block.now in
    let d = heap_of c.loop-now.cells in
    let e = heap_of c.meet_at.new.cells in
    let from = c.args.from in
    let known = c.loop-now.entry.known.items in
    let after = c.meet_at.new.known.items in
    let rests = c.take_next.new.rests.items in
    let left = c.meet_at.new.rests.items in
    let now = c.in-Some-take_next.now in
    let rest = c.in-Some-met.after in
    let m = pair_at d.args b.args.items now in
    let before = pairs_of d.args b.args.items (rests ++ rest_after now ∷ []) in
    let t = taken d b c.loop-now.entry.rests.items c.loop-now.rest rests now c.loop-now.invariant.rests c.in-Some-take_next.ensures in
    let on : AreRests d b rests (rest_after now) = hand_on d b rests now t.some t.kept in
    let stepped : Stepped b d from known m.left m.right rests (rest_after now) e after left rest =
    subst (λ q. StepsAt q b d from known rests now e after left) c.in-Some-met.is c.in_ok-met.ensures.steps in
    omega (
      arith,
      step_lighter b d from known m.left m.right rests (rest_after now) e after left rest on c.meet_at.ensures.extends stepped,
      ap (weights b) (t.pairs ∙ hand_off d b rests now t.some t.kept),
      weights-append b before (m ∷ []),
    )
