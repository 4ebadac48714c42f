use Rattle.std.proofs.Common.{rules, tests, sym, ◌∙◌, ap}
use Rattle.std.specs.List.{list_all}
use Rattle.std.proofs.lemmas.Iterator.{YieldsList-from_chars}
use Rattle.std.proofs.lemmas.Iterator.Search.{all_from_yields_List}
use Rattle.std.proofs.lemmas.Str.{chars_from_encodes}
use Rattle.pl_model.specs.Characters.{is_symbol}
use Rattle.term_writer.proofs.names.has_symbols.Goals as goal

pub returns : goal.returns
returns c =
    all_from_yields_List is_symbol _ _ _ c.all.ensures.ran (YieldsList-from_chars _ c.as_str.utf8 c.chars.ensures.rest) (λ x b q k. search (rules, tests))
    ∙ ap (list_all is_symbol) (sym (chars_from_encodes c.args.f.now c.as_str.result.now c.as_str.utf8 (sym c.as_str.ensures)))
