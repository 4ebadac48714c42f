use Rattle.std.proofs.Common.{◌≡◌, ℕ, ◌+◌, ◌++◌, ◌∷◌, [], ◌∙◌, List, refl, sym, ap}
use Rattle.std.proofs.lemmas.List.{map_push}
use Rattle.pl_term.specs.Tree.{Chars, var}
use Rattle.pl_model.specs.Grammar.{variable}
use Rattle.prolog_reader.specs.Names.{pairs}
use Rattle.prolog_reader.specs.declared.names.NamedVariable.{NamedVariable}
use Rattle.prolog_reader.proofs.NameTexts.{chars-underscore, variable-underscore, variable-known, variable-new}
use Rattle.prolog_reader.proofs.names.Numbered.number.Goals as goal

pub returns-then-is-clause-numbers : goal.returns-then-is-clause-numbers
returns-then-is-clause-numbers c =
    λ at place. variable-underscore (pairs c.args.self.now.list) c.args.self.now.next c.args.name at place (c.if-is.ensures.0 refl ∙ chars-underscore)

pub returns-in-Some-clause-numbers : goal.returns-in-Some-clause-numbers
returns-in-Some-clause-numbers c =
    λ at place. variable-known (pairs c.args.self.now.list) c.args.self.now.next c.args.name at place c.in-Some.number
    (λ e. let h = c.if-is.ensures.1 (e ∙ sym chars-underscore) in cc) c.in-Some.ensures

pub returns-clause-numbers : goal.returns-clause-numbers
returns-clause-numbers c =
    λ at place.
    let next = c.args.self.now.next in
    let new : NamedVariable = record { name = c.args.name; variable = next } in
    let more : pairs c.push.new.self ≡ pairs c.args.self.now.list ++ (c.args.name, next) ∷ []
    = ap pairs c.in_ok-push.ensures ∙ map_push (λ (n : NamedVariable). (n.name, n.variable)) c.args.self.now.list new in
    variable-new (pairs c.args.self.now.list) next c.args.name at place
    (λ e. let h = c.if-is.ensures.1 (e ∙ sym chars-underscore) in cc) c.in_default.ensures
    ∙ ap (λ (ms : List (Chars × ℕ)). variable (var next) (record { at = place; names = ms; next = next + 1 })) (sym more)
