use Rattle.std.proofs.Common.{◌++◌, sym, ap, subst, ◌∙◌}
use Rattle.term_store.specs.Contents.{Holds}
use Rattle.world_api.proofs.Gaining.{gains_weaker}
use Rattle.iso_engine.specs.Dispatching.{lines_of, terms_of}
use Rattle.iso_search.specs.declared.search.Search.{Search}
use Rattle.iso_search.specs.Searching.{IsWhole}
use Rattle.iso_search.specs.declared.outcome.Outcome.{Outcome}
use Rattle.iso_search.proofs.Texts.{texts_apart}
use Rattle.iso_engine.proofs.Tables.{asked_line, line_again, line_made, line_origin, refused_same}
use Rattle.iso_engine.proofs.Refusals.{on_refusal, unless_memory}
use Rattle.iso_engine.proofs.RowSteps.{arguments_held, row_refused, unrefused}
use Rattle.iso_engine.proofs.lines.run_line.Goals as goal

pub line_of-requires-clause-held : goal.line_of-requires-clause-held
line_of-requires-clause-held g c =
    arguments_held (g.A.Atoms.held c.args.atoms.now) c.args.search.now.store c.args.goal.now c.requires.goal c.requires.held

pub follow_next-requires : goal.follow_next-requires
follow_next-requires g c =
    let e = c.args.search.now in
    let m = g.A.Atoms.held c.args.atoms.now in
    let n = g.A.Atoms.held c.line_of.new.atoms in
    let r = c.args.goal.now in
    let row = c.in_ok-row in
    record {
      made = (
        line_origin e m n r c.args.line c.line_of.new.store row.row c.requires.goal c.requires.held c.line_of.ensures.holds c.requires.whole,
        line_made e m n r c.args.line c.line_of.new.store row.row c.requires.goal c.requires.held c.line_of.ensures.holds c.requires.whole (row.ensures.row e.next_variable),
      );
      served = unrefused row.row (sym c.refusal.ensures ∙ c.in-None.is);
      rest = c.requires.rest;
    }

pub returns-in_ok-outcome-in-None-clause-tried : goal.returns-in_ok-outcome-in-None-clause-tried
returns-in_ok-outcome-in-None-clause-tried g c =
    let e = c.args.search.now in
    let m = g.A.Atoms.held c.args.atoms.now in
    let n = g.A.Atoms.held c.line_of.new.atoms in
    let r = c.args.goal.now in
    let row = c.in_ok-row in
    let o = c.in_ok-outcome-in-None in
    let x = line_origin e m n r c.args.line c.line_of.new.store row.row c.requires.goal c.requires.held c.line_of.ensures.holds c.requires.whole in
    let made = line_made e m n r c.args.line c.line_of.new.store row.row c.requires.goal c.requires.held c.line_of.ensures.holds c.requires.whole (row.ensures.row e.next_variable) in
    record { after = o.ensures.after x made; step = λ t view known. o.ensures.step x made t view known }

pub push_choice-requires-clause-whole : goal.push_choice-requires-clause-whole
push_choice-requires-clause-whole g c =
    let e = c.args.search.now in
    let n = g.A.Atoms.held c.line_of.new.atoms in
    let r = c.args.goal.now in
    let row = c.in_ok-row in
    let ts = terms_of (g.A.Atoms.held c.args.atoms.now) e.store r.arguments in
    let same = refused_same e.store e.next_variable ts ts (lines_of r.pred ts) c.args.line n c.line_of.new.store row.row c.in-Some.unserved (row.ensures.row e.next_variable) (sym c.refusal.ensures ∙ c.in-Some.is) in
    subst (λ u. let y : Search = record e { store = u } in IsWhole y) (sym same) c.requires.whole

pub push_choice-requires-clause-words : goal.push_choice-requires-clause-words
push_choice-requires-clause-words g c =
    let e = c.args.search.now in
    let n = g.A.Atoms.held c.line_of.new.atoms in
    let r = c.args.goal.now in
    let row = c.in_ok-row in
    let ts = terms_of (g.A.Atoms.held c.args.atoms.now) e.store r.arguments in
    let same = refused_same e.store e.next_variable ts ts (lines_of r.pred ts) c.args.line n c.line_of.new.store row.row c.in-Some.unserved (row.ensures.row e.next_variable) (sym c.refusal.ensures ∙ c.in-Some.is) in
    subst (λ u. Holds u r.place) (sym same) c.requires.goal.holds

pub returns-in_ok-push_choice-in-Some-clause-put_back : goal.returns-in_ok-push_choice-in-Some-clause-put_back
returns-in_ok-push_choice-in-Some-clause-put_back g c =
    let e = c.args.search.now in
    let n = g.A.Atoms.held c.line_of.new.atoms in
    let r = c.args.goal.now in
    let row = c.in_ok-row in
    let x : Search = record e { store = c.line_of.new.store } in
    let is = sym c.refusal.ensures ∙ c.in-Some.is in
    let ts = terms_of (g.A.Atoms.held c.args.atoms.now) e.store r.arguments in
    let same = refused_same e.store e.next_variable ts ts (lines_of r.pred ts) c.args.line n c.line_of.new.store row.row c.in-Some.unserved (row.ensures.row e.next_variable) is in
    let again = line_again e x c.push_choice.new.self r.place c.args.line c.args.rest (ap (λ u. let y : Search = record e { store = u } in y) same)
    c.in_ok-push_choice-in-Some.ensures.choices c.push_choice.ensures.kept in
    on_refusal Outcome c.in-Some.unserved again

pub returns-in_ok-push_choice-in-Some-clause-whole : goal.returns-in_ok-push_choice-in-Some-clause-whole
returns-in_ok-push_choice-in-Some-clause-whole g c = unless_memory Outcome c.in-Some.unserved c.in_ok-push_choice-in-Some.ensures.whole

pub returns-in_ok-push_choice-in-Some-clause-refusals : goal.returns-in_ok-push_choice-in-Some-clause-refusals
returns-in_ok-push_choice-in-Some-clause-refusals g c =
    let old = g.A.Atoms.refusals c.args.atoms.now in
    unless_memory Outcome c.in-Some.unserved
    (c.in_ok-row.ensures.refusals ∙ ap (λ l. old ++ l) (row_refused c.in_ok-row.row c.in-Some.unserved (sym c.refusal.ensures ∙ c.in-Some.is)))

pub returns-in_err-row-clause-asked : goal.returns-in_err-row-clause-asked
returns-in_err-row-clause-asked g c =
    let a = c.args.atoms.now in
    let m = g.A.Atoms.held a in
    gains_weaker _ _ (g.A.Atoms.asked a) (g.A.Atoms.asked c.line_of.new.atoms)
    (asked_line m (g.met.A.Atoms.fixed_held a) (texts_apart m (g.met.A.Atoms.unlike a) (λ k y h. (g.met.A.Atoms.finite a k y h).2)) c.args.search.now.store c.args.goal.now
    c.requires.goal c.requires.held c.args.line)
    c.line_of.ensures.asked

pub returns-in_err-outcome-in-None-clause-asked : goal.returns-in_err-outcome-in-None-clause-asked
returns-in_err-outcome-in-None-clause-asked g c =
    let a = c.args.atoms.now in
    let m = g.A.Atoms.held a in
    gains_weaker _ _ (g.A.Atoms.asked a) (g.A.Atoms.asked c.line_of.new.atoms)
    (asked_line m (g.met.A.Atoms.fixed_held a) (texts_apart m (g.met.A.Atoms.unlike a) (λ k y h. (g.met.A.Atoms.finite a k y h).2)) c.args.search.now.store c.args.goal.now
    c.requires.goal c.requires.held c.args.line)
    c.line_of.ensures.asked

pub returns-in_ok-outcome-in-None-clause-asked : goal.returns-in_ok-outcome-in-None-clause-asked
returns-in_ok-outcome-in-None-clause-asked g c =
    let a = c.args.atoms.now in
    let m = g.A.Atoms.held a in
    gains_weaker _ _ (g.A.Atoms.asked a) (g.A.Atoms.asked c.line_of.new.atoms)
    (asked_line m (g.met.A.Atoms.fixed_held a) (texts_apart m (g.met.A.Atoms.unlike a) (λ k y h. (g.met.A.Atoms.finite a k y h).2)) c.args.search.now.store c.args.goal.now
    c.requires.goal c.requires.held c.args.line)
    c.line_of.ensures.asked

pub returns-in_err-push_choice-in-Some-clause-asked : goal.returns-in_err-push_choice-in-Some-clause-asked
returns-in_err-push_choice-in-Some-clause-asked g c =
    let a = c.args.atoms.now in
    let m = g.A.Atoms.held a in
    gains_weaker _ _ (g.A.Atoms.asked a) (g.A.Atoms.asked c.line_of.new.atoms)
    (asked_line m (g.met.A.Atoms.fixed_held a) (texts_apart m (g.met.A.Atoms.unlike a) (λ k y h. (g.met.A.Atoms.finite a k y h).2)) c.args.search.now.store c.args.goal.now
    c.requires.goal c.requires.held c.args.line)
    c.line_of.ensures.asked

pub returns-in_ok-push_choice-in-Some-clause-asked : goal.returns-in_ok-push_choice-in-Some-clause-asked
returns-in_ok-push_choice-in-Some-clause-asked g c =
    let a = c.args.atoms.now in
    let m = g.A.Atoms.held a in
    gains_weaker _ _ (g.A.Atoms.asked a) (g.A.Atoms.asked c.line_of.new.atoms)
    (asked_line m (g.met.A.Atoms.fixed_held a) (texts_apart m (g.met.A.Atoms.unlike a) (λ k y h. (g.met.A.Atoms.finite a k y h).2)) c.args.search.now.store c.args.goal.now
    c.requires.goal c.requires.held c.args.line)
    c.line_of.ensures.asked
