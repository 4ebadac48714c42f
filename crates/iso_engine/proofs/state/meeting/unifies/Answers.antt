use Rattle.std.proofs.Common.{◌≡◌, sym, ap, ap₂, ◌∙◌}
use Rattle.std.specs.Prelude.{is_some}
use Rattle.pl_model.specs.History.{head_part}
use Rattle.pl_model.specs.Terms.{raised_by}
use Rattle.pl_model.specs.Unify.{unify}
use Rattle.term_store.specs.ArgumentKeys.{head_in}
use Rattle.term_store.specs.NumberedNames.{term_by}
use Rattle.world_api.specs.Texts.{text_of}
use Rattle.iso_search.specs.declared.search.Search.{Search}
use Rattle.iso_search.specs.Reading.{reads}
use Rattle.iso_search.specs.Spelling as spelling
use Rattle.iso_search.proofs.Grown.{read_kept}
use Rattle.iso_engine.proofs.Copies.{copy_head}
use Rattle.iso_engine.proofs.Meetings.{unified_test}
use Rattle.iso_engine.proofs.Paired.{adds_on}
use Rattle.iso_engine.proofs.state.meeting.unifies.Goals as goal

pub unify-requires-clause-left : goal.unify-requires-clause-left
unify-requires-clause-left c = c.in_ok-copy.ensures.stays.adds.places c.args.head c.requires.head

pub unify-requires-clause-right : goal.unify-requires-clause-right
unify-requires-clause-right c = c.parts_at-parts.ensures.head_holds

pub returns-clause-unified : goal.returns-clause-unified
returns-clause-unified c v view =
    let e = c.args.search.now in
    let b = c.build_clause.new.search in
    let copied = c.in_ok-copy.ensures in
    let clause = c.args.clause.now in
    let u = term_by (text_of v.names) clause in
    let p = c.parts_at-parts.result.0 in
    let head_is : reads v b.store p ≡ raised_by c.args.from (head_part u) = copy_head v view b.store p c.args.from clause copied.named (c.parts_at-parts.ensures.head_is ∙ ap head_in copied.copied.1) in
    ap is_some (ap₂ unify (sym (read_kept v e.store b.store copied.stays c.args.head c.requires.head)) (sym head_is))
    ∙ unified_test (spelling.text_of v.names) view.apart c.in_ok-same.same b.store c.args.head p c.unify.new.self c.in_ok-same.ensures.unified

pub returns-clause-adds : goal.returns-clause-adds
returns-clause-adds c = adds_on c.args.search.now.store c.build_clause.new.search.store c.unify.new.self c.in_ok-copy.ensures.stays.adds c.unify.ensures.adds

pub returns-clause-budget : goal.returns-clause-budget
returns-clause-budget c = c.unify.ensures.size.budget ∙ c.in_ok-copy.ensures.stays.budget

pub returns-clause-kept : goal.returns-clause-kept
returns-clause-kept c = ap (λ (x : Search). let y : Search = record x { store = c.unify.new.self } in y) c.build_clause.ensures.kept
