use Rattle.std.proofs.Common.{◌≡◌, ◌≤◌, ◌+◌, true, false, sym, ap, subst, ◌∙◌, arith}
use Rattle.std.specs.Prelude.{is_some}
use Rattle.pl_term.specs.Tree.{Tree}
use Rattle.pl_model.specs.History.{head_part}
use Rattle.pl_model.specs.Terms.{raised_by}
use Rattle.pl_model.specs.Unify.{unify}
use Rattle.term_store.specs.Contents.{Contents, IsMark}
use Rattle.term_store.specs.NumberedNames.{term_by}
use Rattle.world_api.specs.Texts.{text_of}
use Rattle.iso_search.specs.declared.search.Search.{Search}
use Rattle.iso_search.specs.Reading.{reads}
use Rattle.iso_search.specs.Searching.{IsWhole}
use Rattle.iso_engine.proofs.Meetings.{back_again, found_met, mark_counted, only_numbers, restored, spent_met, whole_numbered}
use Rattle.iso_engine.proofs.state.meeting.meet_clause.Goals as goal

pub returns-in-Some-clause-met : goal.returns-in-Some-clause-met
returns-in-Some-clause-met c s rest k cs view is =
    let e = c.args.search.now in
    let d = c.take.new.self in (
      c.in-Some.ensures.refused,
      spent_met s view e d c.args.head rest k cs c.args.clause.now c.variables.result c.cells-cells.result c.in-Some.fault is c.variables.ensures c.cells-cells.ensures
          (c.in-Some.ensures.step s) c.in-Some.ensures.refused,
    )

pub returns-in-Some-clause-kept : goal.returns-in-Some-clause-kept
returns-in-Some-clause-kept c = only_numbers c.args.search.now c.take.new.self c.args.search.now.next_variable c.in-Some.ensures.refused

pub undo_to-requires : goal.undo_to-requires
undo_to-requires c =
    let e = c.args.search.now in
    let d = c.take.new.self in
    let m = c.mark-mark.result in
    let used : e.store.used ≤ d.store.used = omega (arith, c.in-None.ensures.used) in
    let counted : d.store ≡ (let t : Contents = record e.store { used = d.store.used } in t) = ap (λ (x : Search). x.store) c.in-None.ensures.kept in
    c.in_ok-meets-in-None.ensures.adds.marks m (subst (IsMark m) (sym counted) (mark_counted m e.store d.store.used c.mark-mark.ensures.mark used))

pub returns-then-meets-clause-whole : goal.returns-then-meets-clause-whole
returns-then-meets-clause-whole c =
    let e = c.args.search.now in
    let d = c.take.new.self in
    let u = c.unifies.new.search in
    let m = c.mark-mark.result in
    let used : e.store.used ≤ d.store.used = omega (arith, c.in-None.ensures.used) in
    let counted : d.store ≡ (let t : Contents = record e.store { used = d.store.used } in t) = ap (λ (x : Search). x.store) c.in-None.ensures.kept in
    let back = c.undo_to.ensures.back ∙ back_again m e.store d.store u.store d.store.used c.mark-mark.ensures.mark c.mark-mark.ensures.here used counted c.in_ok-meets-in-None.ensures.adds in
    let last = restored e d u c.undo_to.new.self c.variables.result c.in-None.ensures.kept c.in_ok-meets-in-None.ensures.kept back c.in-None.ensures.taken in
    subst IsWhole (sym last) (whole_numbered e (e.next_variable + c.variables.result) c.requires.whole (omega arith))

pub returns-then-meets-clause-kept : goal.returns-then-meets-clause-kept
returns-then-meets-clause-kept c =
    let e = c.args.search.now in
    let d = c.take.new.self in
    let u = c.unifies.new.search in
    let m = c.mark-mark.result in
    let used : e.store.used ≤ d.store.used = omega (arith, c.in-None.ensures.used) in
    let counted : d.store ≡ (let t : Contents = record e.store { used = d.store.used } in t) = ap (λ (x : Search). x.store) c.in-None.ensures.kept in
    let back = c.undo_to.ensures.back ∙ back_again m e.store d.store u.store d.store.used c.mark-mark.ensures.mark c.mark-mark.ensures.here used counted c.in_ok-meets-in-None.ensures.adds in
    let last = restored e d u c.undo_to.new.self c.variables.result c.in-None.ensures.kept c.in_ok-meets-in-None.ensures.kept back c.in-None.ensures.taken in
    let f : Search = record u { store = c.undo_to.new.self } in
    only_numbers e f (e.next_variable + c.variables.result) last

pub returns-then-meets-clause-met : goal.returns-then-meets-clause-met
returns-then-meets-clause-met c s rest k cs view is =
    let e = c.args.search.now in
    let d = c.take.new.self in
    let u = c.unifies.new.search in
    let m = c.mark-mark.result in
    let used : e.store.used ≤ d.store.used = omega (arith, c.in-None.ensures.used) in
    let counted : d.store ≡ (let t : Contents = record e.store { used = d.store.used } in t) = ap (λ (x : Search). x.store) c.in-None.ensures.kept in
    let back = c.undo_to.ensures.back ∙ back_again m e.store d.store u.store d.store.used c.mark-mark.ensures.mark c.mark-mark.ensures.here used counted c.in_ok-meets-in-None.ensures.adds in
    let last = restored e d u c.undo_to.new.self c.variables.result c.in-None.ensures.kept c.in_ok-meets-in-None.ensures.kept back c.in-None.ensures.taken in
    let f : Search = record u { store = c.undo_to.new.self } in
    let h = head_part (term_by (text_of s.view.names) c.args.clause.now) in
    let head : reads s.view d.store c.args.head ≡ reads s.view e.store c.args.head = ap (λ (x : Search). reads s.view x.store c.args.head) c.in-None.ensures.kept in
    let test : is_some (unify (reads s.view e.store c.args.head) (raised_by e.next_variable h)) ≡ true =
    subst (λ (t : Tree). is_some (unify t (raised_by e.next_variable h)) ≡ true) head (c.in_ok-meets-in-None.ensures.unified s.view view ∙ c.if-meets.true) in
    found_met s view e d f c.args.head rest k cs c.args.clause.now c.variables.result c.cells-cells.result true is c.variables.ensures c.cells-cells.ensures (c.in-None.ensures.step s)
    last test

pub returns-else-meets-clause-whole : goal.returns-else-meets-clause-whole
returns-else-meets-clause-whole c =
    let e = c.args.search.now in
    let d = c.take.new.self in
    let u = c.unifies.new.search in
    let m = c.mark-mark.result in
    let used : e.store.used ≤ d.store.used = omega (arith, c.in-None.ensures.used) in
    let counted : d.store ≡ (let t : Contents = record e.store { used = d.store.used } in t) = ap (λ (x : Search). x.store) c.in-None.ensures.kept in
    let back = c.undo_to.ensures.back ∙ back_again m e.store d.store u.store d.store.used c.mark-mark.ensures.mark c.mark-mark.ensures.here used counted c.in_ok-meets-in-None.ensures.adds in
    let last = restored e d u c.undo_to.new.self c.variables.result c.in-None.ensures.kept c.in_ok-meets-in-None.ensures.kept back c.in-None.ensures.taken in
    subst IsWhole (sym last) (whole_numbered e (e.next_variable + c.variables.result) c.requires.whole (omega arith))

pub returns-else-meets-clause-kept : goal.returns-else-meets-clause-kept
returns-else-meets-clause-kept c =
    let e = c.args.search.now in
    let d = c.take.new.self in
    let u = c.unifies.new.search in
    let m = c.mark-mark.result in
    let used : e.store.used ≤ d.store.used = omega (arith, c.in-None.ensures.used) in
    let counted : d.store ≡ (let t : Contents = record e.store { used = d.store.used } in t) = ap (λ (x : Search). x.store) c.in-None.ensures.kept in
    let back = c.undo_to.ensures.back ∙ back_again m e.store d.store u.store d.store.used c.mark-mark.ensures.mark c.mark-mark.ensures.here used counted c.in_ok-meets-in-None.ensures.adds in
    let last = restored e d u c.undo_to.new.self c.variables.result c.in-None.ensures.kept c.in_ok-meets-in-None.ensures.kept back c.in-None.ensures.taken in
    let f : Search = record u { store = c.undo_to.new.self } in
    only_numbers e f (e.next_variable + c.variables.result) last

pub returns-else-meets-clause-met : goal.returns-else-meets-clause-met
returns-else-meets-clause-met c s rest k cs view is =
    let e = c.args.search.now in
    let d = c.take.new.self in
    let u = c.unifies.new.search in
    let m = c.mark-mark.result in
    let used : e.store.used ≤ d.store.used = omega (arith, c.in-None.ensures.used) in
    let counted : d.store ≡ (let t : Contents = record e.store { used = d.store.used } in t) = ap (λ (x : Search). x.store) c.in-None.ensures.kept in
    let back = c.undo_to.ensures.back ∙ back_again m e.store d.store u.store d.store.used c.mark-mark.ensures.mark c.mark-mark.ensures.here used counted c.in_ok-meets-in-None.ensures.adds in
    let last = restored e d u c.undo_to.new.self c.variables.result c.in-None.ensures.kept c.in_ok-meets-in-None.ensures.kept back c.in-None.ensures.taken in
    let f : Search = record u { store = c.undo_to.new.self } in
    let h = head_part (term_by (text_of s.view.names) c.args.clause.now) in
    let head : reads s.view d.store c.args.head ≡ reads s.view e.store c.args.head = ap (λ (x : Search). reads s.view x.store c.args.head) c.in-None.ensures.kept in
    let test : is_some (unify (reads s.view e.store c.args.head) (raised_by e.next_variable h)) ≡ false =
    subst (λ (t : Tree). is_some (unify t (raised_by e.next_variable h)) ≡ false) head (c.in_ok-meets-in-None.ensures.unified s.view view ∙ c.if-meets.false) in
    found_met s view e d f c.args.head rest k cs c.args.clause.now c.variables.result c.cells-cells.result false is c.variables.ensures c.cells-cells.ensures (c.in-None.ensures.step s)
    last test
