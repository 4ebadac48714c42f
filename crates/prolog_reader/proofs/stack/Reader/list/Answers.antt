use Rattle.std.proofs.Common.{◌≡◌, Ok, ◌∷◌, [], ◌∙◌, length, refl, sym, ap, subst, rules}
use Rattle.pl_term.specs.Tree.{Chars, Tree, atom}
use Rattle.pl_term.specs.declared.node.Node.TheVariants.{Atom}
use Rattle.pl_model.specs.declared.lexical.Mark.TheVariants.{CloseList}
use Rattle.pl_model.specs.Grammar.{Part, Outcome, moved}
use Rattle.pl_model.specs.TermGrammar.{behind_mark, list_term}
use Rattle.pl_model.proofs.TermDepth.{whole, sequence}
use Rattle.prolog_reader.specs.Names.{reading_at}
use Rattle.prolog_reader.specs.Stack.{Pushes, reading}
use Rattle.prolog_reader.specs.declared.stack.Reader.{Reader}
use Rattle.prolog_reader.specs.declared.stack.Frame.TheVariants.{Elements}
use Rattle.prolog_reader.proofs.NameTexts.{chars-list}
use Rattle.prolog_reader.proofs.Primaries.{list-turns}
use Rattle.prolog_reader.proofs.Advances.{advanced-ahead, advanced-pushes, advanced-leaf, mark-follows}
use Rattle.prolog_reader.proofs.stack.Reader.list.Goals as goal

pub returns-in-Some : goal.returns-in-Some
returns-in-Some c =
    λ ops quotes.
    let text = c.args.text.now in
    let old = c.args.self.now in
    let ahead = advanced-ahead text old c.advance.new.self c.args.end c.in_ok-advance.ensures in
    let given : Tree → Outcome Part = λ t. Ok (record { term = t; priority = 0; reading = reading_at old.names c.in-Some.behind }) in
    let found = mark-follows text c.args.end CloseList c.advance.new.self.ahead c.in-Some.behind ahead c.in-Some.ensures in
    advanced-leaf text ops quotes old c.advance.new.self c.leaf.new.self c.args.max (Atom c.in_ok-name.name ∷ []) (atom c.in_ok-name.name) c.args.end
    c.in-Some.behind _ c.leaf.result c.requires c.in_ok-advance.ensures c.leaf.ensures.puts c.leaf.ensures.mode c.leaf.ensures.stop refl found.0 found.1
    (ap (list_term text ops quotes (whole text ops quotes) (sequence text ops quotes) (moved (reading old) c.args.end))
    (ap (behind_mark CloseList) (sym ahead) ∙ sym c.in-Some.ensures)
    ∙ ap (λ (f : Chars). given (atom f)) (sym (c.in_ok-name.ensures ∙ chars-list)))

pub returns : goal.returns
returns c =
    λ ops quotes.
    let text = c.args.text.now in
    let old = c.args.self.now in
    let mid = c.advance.new.self in
    let ahead = advanced-ahead text old mid c.args.end c.in_ok-advance.ensures in
    let here : c.len-start.result ≡ length mid.pieces.items = search rules in
    let start : c.len-start.result ≡ length old.pieces.items = here ∙ ap (λ (r : Reader). length r.pieces.items) c.in_ok-advance.ensures in
    list-turns text ops quotes old _ c.args.max c.args.end c.requires (c.in_default.ensures ∙ ap (behind_mark CloseList) ahead)
    (subst (λ n. Pushes text old (record mid { frames = c.push.new.self }) (Elements c.args.max n) c.args.end) start
    (advanced-pushes text old mid c.args.end c.in_ok-advance.ensures c.push.new.self (Elements c.args.max c.len-start.result) c.in_ok-push.ensures.items))
