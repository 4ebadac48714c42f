use Rattle.std.proofs.Common.{ap, sym, ◌∙◌, None, Some}
use Rattle.std.specs.Option.{option_map}
use Rattle.gen_core.specs.Visible.{is_choice, first_choice}
use Rattle.gen_core.proofs.Listed.{first_none, hit_is}
use Rattle.gen_core.proofs.Calls.{shown_is, shown_at, is_some-mapped}
use Rattle.gen_core.proofs.RunLaws.{seen_tried}
use Rattle.gen_core.proofs.Searches.{IsNext-same}
use Rattle.gen_core.proofs.clause_index.ClauseIndex.next_of_all.Goals as goal

pub returns-in_default : goal.returns-in_default
returns-in_default g c =
    sym (ap first_choice (first_none g.C.Key.Ord.cmp g.C.Kept.any g.C.Kept.key_of c.args.self.now c.requires.sound (is_choice g.C.Key.Ord.cmp g.C.Kept.any g.C.Kept.key_of c.args.g c.args.first.now) c.args.from
    (IsNext-same _ _ c.args.from None (seen_tried g.C.Key.Ord.cmp g.C.Kept.any g.C.Kept.key_of c.args.self.now.clauses c.args.g c.args.first.now c.requires.any) c.in_default.ensures.next)))

pub returns : goal.returns
returns g c =
    shown_is c.in-Some.dated.now c.hit.result.place c.hit.result.clause.now c.hit.result.more c.is_some-more.result c.hit.ensures
    ∙ shown_at c.args.self.now.clauses c.in-Some.number c.in-Some.dated.now c.is_some-more.result c.in-Some.ensures.at
    ∙ hit_is g.C.Key.Ord.cmp g.C.Kept.any g.C.Kept.key_of c.args.self.now c.requires.sound (is_choice g.C.Key.Ord.cmp g.C.Kept.any g.C.Kept.key_of c.args.g c.args.first.now) c.args.from c.in-Some.number (option_map (λ p. p.0) c.next_seen-2.result) c.is_some-more.result (c.is_some-more.ensures ∙ is_some-mapped (λ p. p.0) c.next_seen-2.result)
    (IsNext-same _ _ c.args.from (Some c.in-Some.number) (seen_tried g.C.Key.Ord.cmp g.C.Kept.any g.C.Kept.key_of c.args.self.now.clauses c.args.g c.args.first.now c.requires.any) c.in-Some.ensures.next)
    (IsNext-same _ _ _ (option_map (λ p. p.0) c.next_seen-2.result) (seen_tried g.C.Key.Ord.cmp g.C.Kept.any g.C.Kept.key_of c.args.self.now.clauses c.args.g c.args.first.now c.requires.any) c.next_seen-2.ensures.next)
