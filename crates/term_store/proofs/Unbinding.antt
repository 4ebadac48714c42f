-- The last binding is undone.
use Rattle.std.proofs.Common.{◌≡◌, ◌≢◌, ◌<◌, Bool, true, false, ◌==◌, List, [], ◌∷◌, ◌++◌, length, get_or, set, take, Option, None, refl, sym, ap, subst, ◌∙◌, arith, append_assoc, append-nil, length-append, get_or-set_same, get_or-set_other}
use Rattle.std.proofs.Math.ListN.{length-set}
use Rattle.std.proofs.Math.Seq.{take-append_seam}
use Rattle.std.proofs.lemmas.Bool.{false≢true}
use Rattle.std.proofs.lemmas.Bool.Decides.{Decides-eqb}
use Rattle.std.proofs.lemmas.List.{take-take}
use Rattle.term_store.specs.declared.words.Word.{Word}
use Rattle.term_store.specs.declared.words.Bond.{Bond}
use Rattle.term_store.specs.Heap.{find}
use Rattle.term_store.specs.Fit.{Cached, OnceFrom}
use Rattle.term_store.proofs.Binding.{find_other}

pub OnceFrom-last : (seen bs : List Bond) (b : Bond) → OnceFrom seen (bs ++ b ∷ []) → (find b.slot (seen ++ bs) ≡ None) × OnceFrom seen bs
OnceFrom-last seen [] b o = (ap (find b.slot) (append-nil seen) ∙ o.0, tt)
OnceFrom-last seen (c ∷ cs) b o =
    let last = OnceFrom-last (seen ++ c ∷ []) cs b o.1 in
    (ap (find b.slot) (sym (append_assoc seen (c ∷ []) cs)) ∙ last.0, (o.0, last.1))

pub Cached-popped : (values : List (Option Word)) (bs : List Bond) (b : Bond) → Cached values (bs ++ b ∷ []) → find b.slot bs ≡ None
    → Cached (set values b.slot None) bs
Cached-popped values bs b cached free i inside = go (i == b.slot) refl
  where
    lt : i < length values
    lt = subst (λ n. i < n) (length-set values b.slot None) inside

    go : (q : Bool) → (i == b.slot) ≡ q → get_or (set values b.slot None) i None ≡ find i bs
    go true e =
        let same : i ≡ b.slot = (Decides-eqb i b.slot).0 e in
        subst (λ k. get_or (set values b.slot None) k None ≡ find k bs) (sym same)
        (get_or-set_same values b.slot None None (subst (λ k. k < length values) same lt) ∙ sym free)
    go false e =
        let ne : i ≢ b.slot = λ s. false≢true (sym e ∙ (Decides-eqb i b.slot).1 s) in
        get_or-set_other values b.slot i None None ne ∙ cached i lt ∙ find_other b.slot i b.word bs ne

-- What is left of the bindings are the first ones.
pub taken_popped : (start bs cs : List Bond) (b : Bond) → bs ≡ cs ++ b ∷ [] → bs ≡ take (length bs) start → cs ≡ take (length cs) start
taken_popped start bs cs b e taken =
    sym (take-append_seam cs (b ∷ [])) ∙ ap (take (length cs)) (sym e ∙ taken)
    ∙ take-take (length cs) (length bs) start (omega (arith, ap length e, length-append cs (b ∷ [])))
