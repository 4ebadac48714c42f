use Rattle.std.proofs.Common.{◌++◌, List, ℕ, ◌∙◌, ap, codes}
use Rattle.std.specs.Prelude.{decimal}
use Rattle.load_source.specs.LoadSource.{clauses, facts}
use Rattle.load_source.proofs.FactLaws.{put_all}
use Rattle.load_source.proofs.source.load_source.Goals as goal

pub returns : goal.returns
returns c =
    put_all (codes "size(") (decimal c.args.size) (codes ").\n") (facts c.args.size 1 c.args.seed) clauses c.in_ok-text.text.items c.put_number.new.text.items
    c.extend_from_slice.new.self.items c.put_facts.new.text.items c.extend_from_slice-2.new.self.items c.in_ok-text.ensures.items c.in_ok-put_number.ensures
    c.in_ok-extend_from_slice.ensures.items c.in_ok-put_facts.ensures
    (c.in_ok-extend_from_slice-2.ensures.items ∙ ap (λ (t : List ℕ). c.put_facts.new.text.items ++ t) c.as_bytes.ensures.value)
