use Rattle.std.proofs.Common.{[], ◌∷◌, map, sym, ap, subst, ◌∙◌}
use Rattle.std.proofs.lemmas.List.Elements.{All-cons, All-nil, All-same}
use Rattle.pl_term.specs.Tree.{var}
use Rattle.pl_term.specs.Variables.{variables}
use Rattle.term_store.specs.Contents.{Holds, term_at}
use Rattle.term_store.proofs.Occurring.{empty_list}
use Rattle.builtin_term.specs.VariableWalks.{IsWalked}
use Rattle.builtin_term.proofs.VariableWalking.{popped, walk_begins, walk_ends, walk_pops}
use Rattle.builtin_term.proofs.Walked.{walked_begins, walked_leaves}
use Rattle.builtin_term.proofs.variable_walk.variables_at.Goals as goal

pub loop-init : goal.loop-init
loop-init c =
    let s = c.args.store.now in
    let H = Holds s in
    record {
      inside = All-same H c.in_ok-vec.field-0.items (c.args.term ∷ []) c.in_ok-vec.ensures.items (All-cons H c.args.term [] c.requires (All-nil H));
      places = All-same H c.new-met.result.items [] c.new-met.ensures.items (All-nil H);
      stand = ap (map (term_at s)) c.new-met.ensures.items ∙ sym (ap (map var) c.new-seen.ensures);
      rest = walk_begins s c.args.term c.in_ok-vec.field-0.items c.new-seen.result c.in_ok-vec.ensures.items c.new-seen.ensures;
      walked = walked_begins s c.new-seen.result c.in_ok-vec.field-0.items (record { places = c.in_ok-vec.field-0; course = c.new.result }) c.new.ensures.opened c.new.ensures.left;
    }

pub returns-in_default-clause-inside : goal.returns-in_default-clause-inside
returns-in_default-clause-inside c = c.loop.invariant.places

pub returns-in_default-clause-stand : goal.returns-in_default-clause-stand
returns-in_default-clause-stand c =
    let s = c.args.store.now in
    c.loop.invariant.stand
    ∙ ap (map var)
    (walk_ends s c.loop.walk.places.items c.loop.seen (variables (term_at s c.args.term)) (empty_list c.loop.walk.places.items (sym c.loop.walk.places.ok.0 ∙ c.in_default.ensures.cases.0))
    c.loop.invariant.rest)

pub visit-requires-clause-place : goal.visit-requires-clause-place
visit-requires-clause-place c =
    (popped (Holds c.args.store.now) c.loop.walk.places.items c.pop.new.self.items c.in-Some.next c.in-Some.ensures.items c.loop.invariant.inside).1

pub visit-requires-clause-walk : goal.visit-requires-clause-walk
visit-requires-clause-walk c =
    (popped (Holds c.args.store.now) c.loop.walk.places.items c.pop.new.self.items c.in-Some.next c.in-Some.ensures.items c.loop.invariant.inside).0

pub visit-requires-clause-walked : goal.visit-requires-clause-walked
visit-requires-clause-walked c =
    let s = c.args.store.now in
    let old = c.loop.walk in
    let new = record old { course = c.leave.new.self } in
    subst (λ ps. IsWalked s c.loop.seen ps (record new { places = c.pop.new.self })) c.in-Some.ensures.items
    (walked_leaves s c.len.result c.loop.seen old.places.items old new (c.len.ensures ∙ old.places.ok.0) c.in_ok-leave.ensures c.loop.invariant.walked)

pub loop-preserved : goal.loop-preserved
loop-preserved c =
    let s = c.args.store.now in
    let v = c.in_ok-visit.ensures.visits in
    record {
      inside = v.inside;
      places = v.places;
      stand = v.stand;
      rest =
          v.rest
          ∙ walk_pops s c.loop.walk.places.items c.pop.new.self.items c.in-Some.next c.loop.seen (variables (term_at s c.args.term)) c.in-Some.ensures.items
          c.loop.invariant.rest;
      walked = c.in_ok-visit.ensures.walked;
    }
