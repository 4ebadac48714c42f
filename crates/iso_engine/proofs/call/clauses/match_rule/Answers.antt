use Rattle.std.proofs.Common.{◌≡◌, [], ◌∷◌, codes, ap, ap₂, subst, ◌∙◌}
use Rattle.std.proofs.lemmas.List.Elements.{All-cons, All-nil}
use Rattle.pl_term.specs.Tree.{Chars, Tree, comp, none, more}
use Rattle.pl_model.specs.BodyChecks.{rule}
use Rattle.pl_model.specs.History.{body_part, head_part}
use Rattle.pl_model.specs.Control.{unified}
use Rattle.pl_model.specs.Terms.{raised_by}
use Rattle.pl_model.specs.Unify.{unify}
use Rattle.atom_api.specs.FixedNames.{neck_name}
use Rattle.term_store.specs.ArgumentKeys.{head_in}
use Rattle.term_store.specs.Contents.{Holds}
use Rattle.term_store.specs.NumberedNames.{term_by}
use Rattle.world_api.specs.Texts.{text_of}
use Rattle.iso_search.specs.declared.search.Search.{Search}
use Rattle.iso_search.specs.Outcomes.{result_in, state_in}
use Rattle.iso_search.specs.Reading.{reads}
use Rattle.iso_search.specs.Searching.{node_of}
use Rattle.iso_search.specs.Spelling.{spelled, text_of as read_text}
use Rattle.iso_search.proofs.After.{after_grown}
use Rattle.iso_search.proofs.Converting.{grows_made, stays_again}
use Rattle.iso_search.proofs.Grown.{whole_grown}
use Rattle.iso_search.proofs.Naming.{text_is}
use Rattle.term_store.specs.Entering.{body_in}
use Rattle.iso_engine.proofs.Copies.{copy_body, copy_head}
use Rattle.iso_engine.proofs.Readings.{neck_is}
use Rattle.iso_engine.proofs.Resolving.{matched}
use Rattle.iso_engine.proofs.call.clauses.match_rule.Goals as goal

pub make_compound-requires-clause-places : goal.make_compound-requires-clause-places
make_compound-requires-clause-places c =
    let s = c.build_clause.new.search.store in
    All-cons (Holds s) c.parts_at.result.0 (c.parts_at.result.1 ∷ []) c.parts_at.ensures.head_holds
    (All-cons (Holds s) c.parts_at.result.1 [] c.parts_at.ensures.body_holds (All-nil (Holds s)))

pub unify_since-requires-clause-whole : goal.unify_since-requires-clause-whole
unify_since-requires-clause-whole c =
    let b = c.build_clause.new.search in
    let s = c.make_compound.new.self in
    let made = c.in_ok-rule.ensures in
    whole_grown b s (grows_made b.store s _ c.in_ok-rule.rule made.made made.numbers made.adds) c.in_ok-copy.ensures.whole

pub unify_since-requires-clause-mark : goal.unify_since-requires-clause-mark
unify_since-requires-clause-mark c =
    c.in_ok-rule.ensures.adds.marks c.mark-mark.result (c.in_ok-copy.ensures.stays.adds.marks c.mark-mark.result c.mark-mark.ensures.mark)

pub unify_since-requires-clause-left : goal.unify_since-requires-clause-left
unify_since-requires-clause-left c =
    c.in_ok-rule.ensures.adds.places c.args.goal (c.in_ok-copy.ensures.stays.adds.places c.args.goal c.requires.goal)

pub returns-clause-after : goal.returns-clause-after
returns-clause-after c =
    let e = c.args.search.now in
    let b = c.build_clause.new.search in
    let s = c.make_compound.new.self in
    let made = c.in_ok-rule.ensures in
    let copied = c.in_ok-copy.ensures in
    let grows = grows_made b.store s _ c.in_ok-rule.rule made.made made.numbers made.adds in
    let d : Search = record b { store = s } in
    after_grown e d c.unify_since.new.self c.in_ok-outcome.outcome (stays_again e.store b.store s copied.stays grows.stays) c.requires.whole
    (ap (λ (x : Search). let y : Search = record x { store = s } in y) copied.kept) c.in_ok-outcome.ensures.after

pub returns-clause-step : goal.returns-clause-step
returns-clause-step c t p view =
    let v = t.view in
    let e = c.args.search.now in
    let b = c.build_clause.new.search in
    let f = c.unify_since.new.self in
    let s = c.make_compound.new.self in
    let o = c.in_ok-outcome.outcome in
    let made = c.in_ok-rule.ensures in
    let copied = c.in_ok-copy.ensures in
    let grows = grows_made b.store s _ c.in_ok-rule.rule made.made made.numbers made.adds in
    let clause = c.args.clause.now in
    let u = term_by (text_of v.names) clause in
    let from = c.args.from in
    let head = c.parts_at.result.0 in
    let body = c.parts_at.result.1 in
    let copy = c.in_ok-rule.rule in
    let d : Search = record e { store = s } in
    let same = ap (λ (x : Search). let y : Search = record x { store = s } in y) copied.kept in
    let rule_read : reads v s copy ≡ raised_by from (rule (head_part u) (body_part u)) =
    ap (spelled (read_text v.names)) made.made.means
    ∙ ap₂ (λ (f : Chars) (h : Tree). comp f h (more (reads v b.store body) none)) (text_is v view neck_name (codes ":-") neck_is)
    (copy_head v view b.store head from clause copied.named (c.parts_at.ensures.head_is ∙ ap head_in copied.copied.1))
    ∙ ap (λ (x : Tree). comp (codes ":-") (raised_by from (head_part u)) (more x none))
    (copy_body v view b.store body from clause copied.named (c.parts_at.ensures.body_is ∙ ap body_in copied.copied.1)) in
    matched t e f s (stays_again e.store b.store s copied.stays grows.stays) c.requires.whole c.args.goal copy c.args.rest p o
    (raised_by from (rule (head_part u) (body_part u))) c.requires.goal rule_read
    (subst (λ (x : Search). result_in t f (node_of v x c.args.rest) p o
    ≡ unified (state_in t x) (node_of v x c.args.rest) (unify (reads v x.store c.args.goal) (reads v x.store copy))) same
    (c.in_ok-outcome.ensures.step t p view))
