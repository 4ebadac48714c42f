use Rattle.std.proofs.Common.{◌≡◌, Some, Ok, ◌∷◌, [], ◌∙◌, length, refl, sym, ap, subst, rules, arith}
use Rattle.pl_term.specs.Tree.{atom}
use Rattle.pl_term.specs.declared.node.Node.TheVariants.{Atom, Comp}
use Rattle.pl_model.specs.declared.syntax.SyntaxKind.TheVariants.{PriorityClash}
use Rattle.pl_model.specs.OperatorTable.{operator_at}
use Rattle.pl_model.specs.LexicalTokens.{token_at}
use Rattle.pl_model.specs.TermGrammar.{atom_or_operator, right_argument}
use Rattle.pl_model.proofs.TermDepth.{whole}
use Rattle.prolog_reader.specs.Stack.{Pushes, TurnsBy, reading}
use Rattle.prolog_reader.specs.declared.stack.Reader.{Reader}
use Rattle.prolog_reader.specs.declared.stack.Frame.TheVariants.{Behind}
use Rattle.prolog_reader.specs.declared.stack.Mode.TheVariants.{Part as PartMode, Term as TermMode}
use Rattle.prolog_reader.proofs.Turns.{going-fault, leaf-turns}
use Rattle.prolog_reader.proofs.Primaries.{operator-fault, operator-alone, operator-clash, operator-operand, operand-turns}
use Rattle.prolog_reader.proofs.Advances.{advanced-ahead, advanced-pushes_with, advanced-one, advanced-puts}
use Rattle.prolog_reader.proofs.stack.Reader.prefix.Goals as goal

pub returns-in-Err : goal.returns-in-Err
returns-in-Err c =
    λ quotes.
    let text = c.args.text.now in
    let ops = operator_at c.args.ops.now in
    let old = c.args.self.now in
    let ahead = advanced-ahead text old c.advance.new.self c.args.end c.in_ok-advance.ensures in
    going-fault text ops quotes old c.args.max _ c.in-Err.fault
    (operator-fault text ops quotes old c.args.max c.args.name c.args.start c.args.end (c.args.own, c.args.kind) (token_at text c.args.end) c.in-Err.fault
    (sym ahead ∙ c.in-Err.is))

pub returns-then-alone : goal.returns-then-alone
returns-then-alone c =
    λ quotes.
    let text = c.args.text.now in
    let ops = operator_at c.args.ops.now in
    let old = c.args.self.now in
    let mid = c.advance.new.self in
    let ahead = advanced-ahead text old mid c.args.end c.in_ok-advance.ensures in
    let one = advanced-one text old mid c.args.end c.in_ok-advance.ensures c.put_leaf.new.pieces (Atom c.args.name) c.in_ok-put_leaf.ensures.front
    c.in_ok-put_leaf.ensures.leaf c.in_ok-put_leaf.ensures.len in
    let puts = advanced-puts text old mid c.args.end c.in_ok-advance.ensures c.put_leaf.new.pieces (Atom c.args.name) one in
    let here : c.len-first.result ≡ length mid.pieces.items = search rules in
    let start : c.len-first.result ≡ length old.pieces.items = here ∙ ap (λ (r : Reader). length r.pieces.items) c.in_ok-advance.ensures in
    let is = operator-alone text ops quotes old c.args.max c.args.name c.args.start c.args.end (c.args.own, c.args.kind) (token_at text c.args.end) c.in-Ok.lexeme
    (sym ahead ∙ c.in-Ok.is) (c.stands_alone-alone.ensures quotes ∙ c.if-alone.true) in
    let m = atom_or_operator text ops quotes (whole text ops quotes) c.args.max (reading old) c.args.name c.args.start c.args.end (Some (c.args.own, c.args.kind)) (token_at text c.args.end) in
    subst (λ n. TurnsBy text ops quotes m old c.args.max (record mid { pieces = c.put_leaf.new.pieces }) (Ok (PartMode c.args.max 0 n))) (sym start)
    (leaf-turns text ops quotes old (record mid { pieces = c.put_leaf.new.pieces }) old.names c.args.max (Atom c.args.name ∷ []) (atom c.args.name) c.args.end _
    c.requires.holds puts refl c.requires.forward c.requires.within (omega (arith, c.requires.numbered, c.requires.forward)) is)

pub returns-then-own-max : goal.returns-then-own-max
returns-then-own-max c =
    λ quotes.
    let text = c.args.text.now in
    let ops = operator_at c.args.ops.now in
    let old = c.args.self.now in
    let ahead = advanced-ahead text old c.advance.new.self c.args.end c.in_ok-advance.ensures in
    rw c.refused.ensures
    (going-fault text ops quotes old c.args.max _ (record { kind = PriorityClash; at = c.args.start })
    (operator-clash text ops quotes old c.args.max c.args.name c.args.start c.args.end (c.args.own, c.args.kind) (token_at text c.args.end) c.in-Ok.lexeme
    (sym ahead ∙ c.in-Ok.is) (c.stands_alone-alone.ensures quotes ∙ c.if-alone.false) (omega arith)))

pub returns : goal.returns
returns c =
    λ quotes.
    let text = c.args.text.now in
    let ops = operator_at c.args.ops.now in
    let old = c.args.self.now in
    let mid = c.advance.new.self in
    let pieces = c.put_leaf-2.new.pieces in
    let ahead = advanced-ahead text old mid c.args.end c.in_ok-advance.ensures in
    let one = advanced-one text old mid c.args.end c.in_ok-advance.ensures pieces (Comp c.args.name 1) c.in_ok-put_leaf-2.ensures.front
    c.in_ok-put_leaf-2.ensures.leaf c.in_ok-put_leaf-2.ensures.len in
    let here : c.len-first.result ≡ length mid.pieces.items = search rules in
    let start : c.len-first.result ≡ length old.pieces.items = here ∙ ap (λ (r : Reader). length r.pieces.items) c.in_ok-advance.ensures in
    let pushes = subst (λ n. Pushes text (record old { pieces = pieces }) (record mid { frames = c.push.new.self; pieces = pieces }) (Behind c.args.max c.args.own n) c.args.end) start
    (advanced-pushes_with text old mid c.args.end c.in_ok-advance.ensures pieces c.push.new.self (Behind c.args.max c.args.own c.len-first.result) c.in_ok-push.ensures.items) in
    let is = operator-operand text ops quotes old c.args.max c.args.name c.args.start c.args.end (c.args.own, c.args.kind) (token_at text c.args.end) c.in-Ok.lexeme
    (sym ahead ∙ c.in-Ok.is) (c.stands_alone-alone.ensures quotes ∙ c.if-alone.false) (omega arith) in
    let m = atom_or_operator text ops quotes (whole text ops quotes) c.args.max (reading old) c.args.name c.args.start c.args.end (Some (c.args.own, c.args.kind)) (token_at text c.args.end) in
    subst (λ n. TurnsBy text ops quotes m old c.args.max (record mid { frames = c.push.new.self; pieces = pieces }) (Ok (TermMode n))) (sym c.right_argument.ensures)
    (operand-turns text ops quotes old (record mid { frames = c.push.new.self; pieces = pieces }) pieces c.args.max c.args.name c.args.own
    (right_argument (c.args.own, c.args.kind)) c.args.end _ c.requires one pushes is)
