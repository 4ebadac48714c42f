use Rattle.std.proofs.Common.{◌≡◌, Ok, ◌∷◌, [], ◌∙◌, length, refl, sym, ap, subst, rules}
use Rattle.pl_term.specs.Tree.{Chars, Tree, atom}
use Rattle.pl_term.specs.declared.node.Node.TheVariants.{Atom, Comp}
use Rattle.pl_model.specs.declared.lexical.Mark.TheVariants.{CloseCurly}
use Rattle.pl_model.specs.Grammar.{Part, Outcome, moved}
use Rattle.pl_model.specs.TermGrammar.{behind_mark, curly_term}
use Rattle.pl_model.proofs.TermDepth.{whole}
use Rattle.prolog_reader.specs.Names.{reading_at}
use Rattle.prolog_reader.specs.Stack.{Pushes, reading}
use Rattle.prolog_reader.specs.declared.stack.Reader.{Reader}
use Rattle.prolog_reader.specs.declared.stack.Frame.TheVariants.{Closing}
use Rattle.prolog_reader.proofs.NameTexts.{chars-curly}
use Rattle.prolog_reader.proofs.Primaries.{PutsOne, curly-turns}
use Rattle.prolog_reader.proofs.Advances.{advanced-ahead, advanced-pushes_with, advanced-one, advanced-leaf, mark-follows}
use Rattle.prolog_reader.proofs.stack.Reader.curly.Goals as goal

pub returns-in-Some : goal.returns-in-Some
returns-in-Some c =
    λ ops quotes.
    let text = c.args.text.now in
    let old = c.args.self.now in
    let ahead = advanced-ahead text old c.advance.new.self c.args.end c.in_ok-advance.ensures in
    let given : Tree → Outcome Part = λ t. Ok (record { term = t; priority = 0; reading = reading_at old.names c.in-Some.behind }) in
    let found = mark-follows text c.args.end CloseCurly c.advance.new.self.ahead c.in-Some.behind ahead c.in-Some.ensures in
    advanced-leaf text ops quotes old c.advance.new.self c.leaf.new.self c.args.max (Atom c.in_ok-name.name ∷ []) (atom c.in_ok-name.name) c.args.end
    c.in-Some.behind _ c.leaf.result c.requires c.in_ok-advance.ensures c.leaf.ensures.puts c.leaf.ensures.mode c.leaf.ensures.stop refl found.0 found.1
    (ap (curly_term text ops quotes (whole text ops quotes) (moved (reading old) c.args.end)) (ap (behind_mark CloseCurly) (sym ahead) ∙ sym c.in-Some.ensures)
    ∙ ap (λ (f : Chars). given (atom f)) (sym (c.in_ok-name.ensures ∙ chars-curly)))

pub returns : goal.returns
returns c =
    λ ops quotes.
    let text = c.args.text.now in
    let old = c.args.self.now in
    let mid = c.advance.new.self in
    let pieces = c.put_leaf.new.pieces in
    let ahead = advanced-ahead text old mid c.args.end c.in_ok-advance.ensures in
    let here : c.len-start.result ≡ length mid.pieces.items = search rules in
    let start : c.len-start.result ≡ length old.pieces.items = here ∙ ap (λ (r : Reader). length r.pieces.items) c.in_ok-advance.ensures in
    let one = advanced-one text old mid c.args.end c.in_ok-advance.ensures pieces (Comp c.in_ok-name.name 1) c.in_ok-put_leaf.ensures.front
    c.in_ok-put_leaf.ensures.leaf c.in_ok-put_leaf.ensures.len in
    curly-turns text ops quotes old _ pieces c.args.max c.args.end c.requires (c.in_default.ensures ∙ ap (behind_mark CloseCurly) ahead)
    (subst (λ (f : Chars). PutsOne old pieces (Comp f 1)) (c.in_ok-name.ensures ∙ chars-curly) one)
    (subst (λ n. Pushes text (record old { pieces = pieces }) (record mid { frames = c.push.new.self; pieces = pieces }) (Closing c.args.max CloseCurly n) c.args.end) start
    (advanced-pushes_with text old mid c.args.end c.in_ok-advance.ensures pieces c.push.new.self (Closing c.args.max CloseCurly c.len-start.result) c.in_ok-push.ensures.items))
