-- What the refusals of a seat say stays so.
use Rattle.std.proofs.Common.{◌≡◌, ◌++◌, ◌&&◌, ℕ, ◌≤◌, true, refl, ◌∙◌, arith}
use Rattle.std.specs.List.{list_all}
use Rattle.std.proofs.lemmas.List.Folds.{list_all-append}
use Rattle.std.proofs.lemmas.Bool.Decides.{nat_tests}
use Rattle.pl_term.specs.Tree.{Chars}
use Rattle.atom_words.specs.Layout.{version_of, worn}
use Rattle.atom_words.specs.declared.view.View.{View}
use Rattle.atom_api.specs.Interns.{refused}
use Rattle.atom_api.specs.declared.interned.Interned.{Interned}
use Rattle.atom_api.specs.declared.interned.Interned.TheVariants.{Is, Full, Again, TooLong, Worn, Memory}
use Rattle.atom_table.specs.Holding.{Answers}
use Rattle.atom_table.specs.Tables.{is_so, are_so}

-- a step that neither refuses nor changes the size
pub so_same : (v w : View) → w.refusals ≡ v.refusals → w.size ≡ v.size → are_so v ≡ true → are_so w ≡ true
so_same v w same size so = (λ i. list_all (is_so (size i).slots) (same i)) ∙ so

-- what is refused of a text is so
refused_so : (t : Chars) (h : ℕ) (v w : View) (r : Interned) → Answers t h v r w → list_all (is_so v.size.slots) (refused r) ≡ true
refused_so t h v w (Is a) e = refl
refused_so t h v w (Full p) e = let is : p.counted ≡ v.size.slots = e.2 in grind (arith, nat_tests)
refused_so t h v w (Again c) e = refl
refused_so t h v w (TooLong b) e = refl
refused_so t h v w (Worn x) e = let is : worn ≤ version_of x.word = e.3 in grind (arith, nat_tests)
refused_so t h v w Memory e = absurd e

-- the answers of interning
pub so_told : (t : Chars) (h : ℕ) (v w : View) (r : Interned) → Answers t h v r w → w.refusals ≡ v.refusals ++ refused r → w.size ≡ v.size → are_so v ≡ true → are_so w ≡ true
so_told t h v w r e more size so = (λ i. list_all (is_so (size i).slots) (more i)) ∙ (list_all-append (is_so v.size.slots) v.refusals (refused r) ∙ (λ i. so i && refused_so t h v w r e i))
