use Rattle.std.proofs.Common.{rules, tests, sym, ◌∙◌, ap}
use Rattle.std.specs.List.{list_all}
use Rattle.std.proofs.lemmas.Iterator.{YieldsList-from_chars}
use Rattle.std.proofs.lemmas.Iterator.Search.{all_from_yields_List}
use Rattle.std.proofs.lemmas.Str.{chars_from_encodes}
use Rattle.pl_model.specs.Characters.{continues_name}
use Rattle.term_writer.proofs.Texts.{letter_name}
use Rattle.term_writer.proofs.names.is_letter_name.Goals as goal

pub returns-then-begins_name : goal.returns-then-begins_name
returns-then-begins_name c =
    letter_name _ _ _ c.in-Some.ensures (sym c.begins_name.ensures ∙ c.if-begins_name.true) (all_from_yields_List continues_name _ _ _ c.all.ensures.ran (YieldsList-from_chars _ c.as_str.utf8 c.chars.ensures.rest) (λ x b q k. search (rules, tests))
    ∙ ap (list_all continues_name) (sym (chars_from_encodes c.args.f.now c.as_str.result.now c.as_str.utf8 (sym c.as_str.ensures))))
