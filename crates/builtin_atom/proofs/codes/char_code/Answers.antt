use Rattle.std.proofs.Common.{◌≡◌, Bool, codes, subst, sym, ◌∙◌}
use Rattle.std.specs.Prelude.{IfOk, MatchBool}
use Rattle.pl_model.specs.AtomBuiltins.{codes_character}
use Rattle.pl_model.specs.History.{proc}
use Rattle.atom_api.specs.Names.{Names}
use Rattle.world_builtins.specs.Spelling.{reads}
use Rattle.builtin_atom.specs.declared.forms.Fault.TheVariants.{Unbound}
use Rattle.builtin_atom.specs.declared.forms.Form.TheVariants.{Characters}
use Rattle.builtin_atom.specs.Answering.{IsRowOf, pair_at}
use Rattle.builtin_atom.specs.Forms.{IsBound, error_of}
use Rattle.builtin_atom.proofs.CodeLaws.{bad_character, bound_by}
use Rattle.builtin_atom.proofs.FaultLaws.{fault_given, read_bad}
use Rattle.builtin_atom.proofs.Fixed.{char_code_is}
use Rattle.builtin_atom.proofs.codes.char_code.Goals as goal

pub returns-else-is_unbound-clause-row : goal.returns-else-is_unbound-clause-row
returns-else-is_unbound-clause-row g c =
    let s = c.args.store.now in
    let m = g.A.Atoms.held c.args.atoms.now in
    let a = reads m s c.args.character in
    let b = reads m s c.args.code in
    let ts = pair_at m s c.args.character c.args.code in
    let f = c.in-Bad.fault in
    let bad = read_bad Characters m s a c.read_element-first.result f c.in-Bad.is c.read_element-first.ensures.read in
    let bound = subst (λ (x : Bool). MatchBool x (f ≡ Unbound) (IsBound f)) c.if-is_unbound.false c.is_unbound.ensures in
    subst (λ (n : Names). IfOk c.fault_row.result (IsRowOf s (proc (codes "char_code") 2) ts (codes_character a b) n c.fault_row.new.store))
    (sym (c.read_element-second.ensures.same ∙ c.read_element-first.ensures.same))
    (fault_given c.fault_row.result s c.fault_row.new.store 57 (codes "char_code") ts m f (codes_character a b)
    (g.met.A.Atoms.fixed_held c.args.atoms.now) bad.1.1.1 char_code_is (bad_character a b (error_of m s f) (bound_by a f bound bad.1.0) bad.0)
    c.fault_row.ensures.row)
