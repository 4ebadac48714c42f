use Rattle.std.proofs.Common.{ap, ◌∙◌, false}
use Rattle.std.specs.Option.{option_map_or}
use Rattle.gen_core.specs.Index.{is_in}
use Rattle.gen_core.proofs.Searches.{IsNext-same, found_under}
use Rattle.gen_core.proofs.clause_index.ClauseIndex.next.Goals as goal

pub returns : goal.returns
returns g c =
    IsNext-same
    _
    _
    c.args.from
    c.earlier.result
    (λ q. found_under g.C.Key.Ord.cmp g.C.Kept.any g.C.Kept.key_of c.args.self.now.clauses c.args.first.now q _ _ c.requires.keyed (ap (λ o. option_map_or (λ s. is_in s q) o false) c.requires.under ∙ c.requires.sound.listed c.args.first.now q) (c.requires.sound.listed_any q))
    (c.earlier.ensures _ _ c.args.from c.next_under.ensures c.next_in.ensures)
