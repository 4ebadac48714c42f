use Rattle.std.proofs.Common.{refl, ap}
use Rattle.pl_term.specs.Variables.{has, occurrences}
use Rattle.term_store.specs.Heap.{atom_name}
use Rattle.term_store.specs.Contents.{term_at}
use Rattle.builtin_term.proofs.PartAnswers.{on_both}
use Rattle.builtin_term.proofs.VariableWalking.{visits_leaf, visits_variable}
use Rattle.builtin_term.proofs.Walked.{visits_passed, walked_compound, walked_leaf, walked_variable}
use Rattle.builtin_term.proofs.variable_walk.visit.Goals as goal

pub returns-in-Variable : goal.returns-in-Variable
returns-in-Variable c =
    let s = c.args.store.now in
    let t = term_at s c.args.place in
    let w = c.args.walk.now in
    record {
      visits =
          on_both _ _ _ c.meet.result c.meet.ensures.seen c.meet.ensures.met
          (λ e f. visits_variable s t w.places.items c.args.met.now.items c.args.seen.now c.requires.walk c.requires.inside c.requires.met c.in-Variable.x c.args.place
          c.meet.new.met.items c.meet.new.seen c.in-Variable.ensures c.requires.place refl e f);
      walked =
          on_both _ _ _ c.meet.result c.meet.ensures.seen c.meet.ensures.met
          (λ e f. walked_variable s c.in-Variable.x c.args.place t c.args.seen.now c.meet.new.seen w refl c.in-Variable.ensures e c.requires.walked);
    }

pub returns-in-Integer : goal.returns-in-Integer
returns-in-Integer c =
    let s = c.args.store.now in
    let w = c.args.walk.now in
    record {
      visits = visits_leaf s (term_at s c.args.place) w.places.items c.args.met.now.items c.args.seen.now c.requires.walk c.requires.inside c.requires.met
          (ap occurrences c.in-Integer.ensures);
      walked = walked_leaf s c.args.place c.args.seen.now w (λ x. ap (has x) c.in-Integer.ensures) c.requires.walked;
    }

pub returns-in-Atom : goal.returns-in-Atom
returns-in-Atom c =
    let s = c.args.store.now in
    let w = c.args.walk.now in
    record {
      visits = visits_leaf s (term_at s c.args.place) w.places.items c.args.met.now.items c.args.seen.now c.requires.walk c.requires.inside c.requires.met
          (ap occurrences c.in-Atom.ensures);
      walked = walked_leaf s c.args.place c.args.seen.now w (λ x. ap (has x) c.in-Atom.ensures) c.requires.walked;
    }

pub returns-in-Compound : goal.returns-in-Compound
returns-in-Compound c =
    let s = c.args.store.now in
    let w = c.args.walk.now in
    let f = atom_name c.in-Compound.field-0 in
    let a = c.in-Compound.arguments in
    record {
      visits =
          on_both _ _ _ c.enter_arguments.result c.enter_arguments.ensures.inside c.enter_arguments.ensures.passes
          (λ all e. visits_passed s f a c.args.place c.args.met.now.items c.args.seen.now w c.enter_arguments.new.walk c.requires.walk c.requires.inside c.requires.met
          c.in-Compound.ensures.0 all e c.requires.walked);
      walked =
          on_both _ _ _ c.enter_arguments.result c.enter_arguments.ensures.inside c.enter_arguments.ensures.passes
          (λ all e. walked_compound s f a c.args.place c.args.seen.now w c.enter_arguments.new.walk c.in-Compound.ensures.0 e c.requires.walked);
    }
