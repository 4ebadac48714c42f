use Rattle.std.proofs.Common.{◌≡◌, ◌<◌, ◌≤◌, ◌++◌, codes, sym, ap, subst, ◌∙◌, arith}
use Rattle.pl_term.specs.Texts.{size}
use Rattle.pl_term.specs.Tree.{atom}
use Rattle.pl_model.specs.Balls.{representation_error}
use Rattle.pl_model.specs.BuiltinRows.{error, one_answer}
use Rattle.pl_model.specs.Checks.{text_of_atom}
use Rattle.pl_model.specs.TermBuiltins.{three}
use Rattle.atom_api.specs.Names.{Names}
use Rattle.world_builtins.specs.Spelling.{reads}
use Rattle.builtin_atom.specs.Answering.{AsksFor, IsRowOf}
use Rattle.builtin_atom.proofs.Asking.{asks_as}
use Rattle.builtin_atom.proofs.Fixed.{max_atom_length_is}
use Rattle.builtin_atom.proofs.Rows.{row_as, with_ok}
use Rattle.atom_parts.specs.Joining.{joined_at}
use Rattle.atom_parts.specs.Lined.{atom_concat_proc}
use Rattle.atom_parts.proofs.JoinLaws.{joined_long, joined_short, joined_text}
use Rattle.atom_parts.proofs.Names.{atom_concat_is}
use Rattle.atom_parts.proofs.joining.join.Goals as goal

pub returns-then-size-gt248-clause-row : goal.returns-then-size-gt248-clause-row
returns-then-size-gt248-clause-row g c =
    let s = c.args.store.now in
    let m = g.A.Atoms.held c.args.atoms.now in
    let k = g.A.Atoms.held c.read_text.new.atoms in
    let n = g.A.Atoms.held c.read_text-2.new.atoms in
    let a = reads m s c.args.first in
    let b = reads m s c.args.second in
    let one = c.read_text.ensures in
    let two = c.read_text-2.ensures in
    let stays : n ≡ m = two.same ∙ one.same in
    let back = subst (λ (x : Names). reads x s c.args.second ≡ atom c.read_text-2.new.buffer) one.same two.text in
    let same : c.in_ok-text.text ≡ text_of_atom a ++ text_of_atom b =
    joined_text a b c.read_text.new.buffer c.read_text-2.new.buffer c.as_str.result.now c.as_str-2.result.now c.in_ok-text.text one.text back
    c.as_str.ensures c.as_str-2.ensures one.scalars two.scalars c.in_ok-text.ensures in
    let long : 248 < size (text_of_atom a ++ text_of_atom b) = omega (arith, c.if-size-gt248.true, c.size.ensures, ap size same) in
    with_ok _ _ c.past_limit.result
    (λ r h ts. subst (λ (x : Names). IsRowOf s atom_concat_proc ts (joined_at m s c.args.first c.args.second) x c.past_limit.new.store r) (sym stays)
    (row_as s atom_concat_proc ts (error (representation_error (codes "max_atom_length"))) (joined_at m s c.args.first c.args.second) m c.past_limit.new.store r
    (joined_long a b long) (h m (codes "max_atom_length") (codes "atom_concat") ts (g.met.A.Atoms.fixed_held c.args.atoms.now) max_atom_length_is atom_concat_is)))
    c.past_limit.ensures.row

pub returns-clause-row : goal.returns-clause-row
returns-clause-row g c =
    let s = c.args.store.now in
    let m = g.A.Atoms.held c.args.atoms.now in
    let k = g.A.Atoms.held c.read_text-2.new.atoms in
    let n = g.A.Atoms.held c.answer_joined.new.atoms in
    let t = c.answer_joined.new.store in
    let a = reads m s c.args.first in
    let b = reads m s c.args.second in
    let one = c.read_text.ensures in
    let two = c.read_text-2.ensures in
    let stays : k ≡ m = two.same ∙ one.same in
    let back = subst (λ (x : Names). reads x s c.args.second ≡ atom c.read_text-2.new.buffer) one.same two.text in
    let same : c.in_ok-text.text ≡ text_of_atom a ++ text_of_atom b =
    joined_text a b c.read_text.new.buffer c.read_text-2.new.buffer c.as_str.result.now c.as_str-2.result.now c.in_ok-text.text one.text back
    c.as_str.ensures c.as_str-2.ensures one.scalars two.scalars c.in_ok-text.ensures in
    let short : size c.in_ok-text.text ≤ 248 = omega (arith, c.if-size-gt248.false, c.size.ensures) in
    with_ok _ _ c.answer_joined.result
    (λ r h ts.
    row_as s atom_concat_proc ts (one_answer (three a b (atom c.in_ok-text.text))) (joined_at m s c.args.first c.args.second) n t r
    (joined_short a b c.in_ok-text.text same short)
    (subst (λ (x : Names). IsRowOf s atom_concat_proc ts (one_answer (three (reads x s c.args.first) (reads x s c.args.second) (atom c.in_ok-text.text))) n t r) stays
    (h atom_concat_proc ts)))
    c.answer_joined.ensures.row

pub returns-clause-asked : goal.returns-clause-asked
returns-clause-asked g c ts =
    let s = c.args.store.now in
    let m = g.A.Atoms.held c.args.atoms.now in
    let k = g.A.Atoms.held c.read_text-2.new.atoms in
    let a = reads m s c.args.first in
    let b = reads m s c.args.second in
    let one = c.read_text.ensures in
    let two = c.read_text-2.ensures in
    let stays : k ≡ m = two.same ∙ one.same in
    let asked = two.asked ∙ one.asked in
    let old = g.A.Atoms.asked c.args.atoms.now in
    let new = g.A.Atoms.asked c.answer_joined.new.atoms in
    let back = subst (λ (x : Names). reads x s c.args.second ≡ atom c.read_text-2.new.buffer) one.same two.text in
    let same : c.in_ok-text.text ≡ text_of_atom a ++ text_of_atom b =
    joined_text a b c.read_text.new.buffer c.read_text-2.new.buffer c.as_str.result.now c.as_str-2.result.now c.in_ok-text.text one.text back
    c.as_str.ensures c.as_str-2.ensures one.scalars two.scalars c.in_ok-text.ensures in
    let short : size c.in_ok-text.text ≤ 248 = omega (arith, c.if-size-gt248.false, c.size.ensures) in
    asks_as s atom_concat_proc ts (one_answer (three a b (atom c.in_ok-text.text))) (joined_at m s c.args.first c.args.second) old new (joined_short a b c.in_ok-text.text same short)
    (subst (λ (x : Names). AsksFor s atom_concat_proc ts (one_answer (three (reads x s c.args.first) (reads x s c.args.second) (atom c.in_ok-text.text))) old new) stays
    (subst (λ o. AsksFor s atom_concat_proc ts (one_answer (three (reads k s c.args.first) (reads k s c.args.second) (atom c.in_ok-text.text))) o new) asked
    (c.answer_joined.ensures.asked atom_concat_proc ts)))
