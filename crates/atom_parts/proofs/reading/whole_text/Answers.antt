use Rattle.std.proofs.Common.{◌≡◌, ◌≤◌, ◌++◌, sym, ap, subst, ◌∙◌, arith}
use Rattle.std.proofs.lemmas.Str.{length-le-encodes}
use Rattle.pl_term.specs.Texts.{size}
use Rattle.pl_term.specs.Tree.{Chars, atom}
use Rattle.term_store.specs.Heap.{atom_name}
use Rattle.world_builtins.specs.Spelling.{text_of}
use Rattle.builtin_atom.proofs.Looks.{read_atom}
use Rattle.atom_parts.proofs.ReadLaws.{atom_seen}
use Rattle.atom_parts.proofs.reading.whole_text.Goals as goal

pub unreachable-requires : goal.unreachable-requires
unreachable-requires g c =
    atom_seen (g.A.Atoms.held c.args.atoms.now) c.args.store.now c.args.place c.look.result c.look.ensures c.requires.atom c.in_default.not-Atom

pub returns-clause-whole : goal.returns-clause-whole
returns-clause-whole g c =
    let m = g.A.Atoms.held c.args.atoms.now in
    let t = text_of m (atom_name c.in-Atom.name) in
    let same : c.add_text.new.text.items ≡ t = c.in_ok-add_text-in-Atom.ensures.text ∙ ap (λ l. l ++ t) c.new-text.ensures.items in
    let short : size c.add_text.new.text.items ≤ 248 = subst (λ (u : Chars). size u ≤ 248) (sym same) c.add_text.ensures.short in
    record {
      is = read_atom m c.args.store.now c.args.place c.in-Atom.name c.in-Atom.ensures ∙ ap atom (sym same);
      short = short;
      few = omega (arith, short, length-le-encodes c.add_text.new.text.items);
    }
