use Rattle.std.proofs.Common.{◌≡◌, Ok, Err, List, ℕ, drop, sym, subst, ap, ◌∙◌}
use Rattle.pl_model.specs.AtomBuiltins.{behind_layout, signed}
use Rattle.pl_model.specs.Tokens.{skip_layout}
use Rattle.lex_core.specs.NumberTexts.{IsNumber}
use Rattle.lex_core.proofs.NumberLaws.{by_bytes}
use Rattle.lex_core.proofs.number_texts.number_in.Goals as goal

pub returns-in-Ok : goal.returns-in-Ok
returns-in-Ok c =
    let bs = c.args.text.now in
    let start = c.in-Ok.start in
    let same = c.as_bytes-bytes.ensures.value in
    let layout : skip_layout 0 0 bs ≡ Ok start = sym (ap (skip_layout 0 0) same) ∙ sym c.skip_layout.ensures ∙ c.in-Ok.is in
    subst (λ o. IsNumber o c.signed.result) (ap (behind_layout bs) (sym layout) ∙ by_bytes bs c.utf8.text)
    (subst (λ (xs : List ℕ). IsNumber (signed xs) c.signed.result) (c.behind.ensures ∙ ap (drop start) same) c.signed.ensures)

pub returns-in-Err : goal.returns-in-Err
returns-in-Err c =
    let bs = c.args.text.now in
    let same = c.as_bytes-bytes.ensures.value in
    let layout : skip_layout 0 0 bs ≡ Err c.in-Err.field-0 = sym (ap (skip_layout 0 0) same) ∙ sym c.skip_layout.ensures ∙ c.in-Err.is in
    sym (by_bytes bs c.utf8.text) ∙ ap (behind_layout bs) layout
