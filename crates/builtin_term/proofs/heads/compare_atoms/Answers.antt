use Rattle.std.proofs.Common.{◌≡◌, sym, ap, ap₂, ◌∙◌}
use Rattle.std.proofs.lemmas.Bool.Decides.{Decides-eqb}
use Rattle.std.proofs.lemmas.Str.{chars_from_encodes}
use Rattle.pl_term.specs.Order.{text_order}
use Rattle.pl_term.proofs.TextOrder.{bytes_order}
use Rattle.term_store.specs.Heap.{atom_name}
use Rattle.world_builtins.specs.Spelling.{or_no_text, text_of}
use Rattle.builtin_term.proofs.Seeing.{same_texts}
use Rattle.builtin_term.proofs.heads.compare_atoms.Goals as goal

pub returns-then-eq-clause-order : goal.returns-then-eq-clause-order
returns-then-eq-clause-order g c =
    let m = g.A.Atoms.held c.args.atoms.now in
    let same : c.args.left ≡ c.args.right = (Decides-eqb c.args.left c.args.right).0 (sym c.if-eq.ensures) in
    sym (same_texts (text_of m (atom_name c.args.left)))
    ∙ ap (λ a. text_order (text_of m (atom_name c.args.left)) (text_of m (atom_name a))) same

-- The bytes of both texts are in the order of their characters.
pub returns-clause-order : goal.returns-clause-order
returns-clause-order g c =
    let a = c.as_str.result.now in
    let b = c.as_str-2.result.now in
    let left = sym (ap (or_no_text (atom_name c.args.left)) c.text.ensures.text) in
    let right = sym (ap (or_no_text (atom_name c.args.right)) (sym (ap (λ n. n c.args.right) c.text.ensures.same) ∙ c.text-2.ensures.text)) in
    c.cmp.ensures ∙ bytes_order a b c.as_str.utf8 c.as_str-2.utf8
    ∙ ap₂ text_order (sym (chars_from_encodes c.text.new.buf a c.as_str.utf8 (sym c.as_str.ensures)) ∙ left)
    (sym (chars_from_encodes c.text-2.new.buf b c.as_str-2.utf8 (sym c.as_str-2.ensures)) ∙ right)
