-- What a seat holds after it took part in a cycle.
use Rattle.std.proofs.Common.{◌≡◌, ℕ, List, [], ◌∷◌, ◌++◌, refl, sym, ap, ◌∙◌, subst}
use Rattle.atom_words.specs.Kinds.{view_after, after}
use Rattle.atom_words.specs.declared.view.Held.{Held}
use Rattle.atom_words.specs.declared.view.View.{View}
use Rattle.atom_words.specs.declared.kind.Kind.TheVariants.{Load, Mark, Scan, Protect, Ack}
use Rattle.bucket_rows.proofs.Checks.{after_append}
use Rattle.atom_api.specs.Names.{cut}
use Rattle.atom_table.specs.Naming.{named, names, those}
use Rattle.atom_table.specs.Opening.{fixed_slots}
use Rattle.atom_table.specs.Collecting.{scans, marking, AcksBy, HoldsAfter}
use Rattle.atom_table.specs.declared.marking.Marked.{Marked}
use Rattle.atom_table.specs.declared.marking.Marked.TheVariants.{Acked, NoCycle}
use Rattle.atom_table.proofs.Naming.{kept_named}
use Rattle.atom_table.proofs.Scans.{scans_keep}

-- what all of these steps leave
pub acked_same : {A : Type 0} (f : View → A) → ((v : View) (x : ℕ) (hs : List Held) → f (view_after v (Mark x hs)) ≡ f v) → ((v : View) (k : ℕ) → f (view_after v (Scan k)) ≡ f v) → ((v : View) (k x : ℕ) → f (view_after v (Protect k x)) ≡ f v) → ((v : View) → f (view_after v Ack) ≡ f v)
    → ((v : View) (i x : ℕ) → f (view_after v (Load i x)) ≡ f v) → (live : List ℕ) (v : View) (r : Marked) (w : View) → AcksBy live v r w → f w ≡ f v
acked_same f mark scan protect ack load live v (Acked e) w t = let m : View = marking t.0 live v in let ms = scans m live t.1 in
    ap f t.5 ∙ (ap f (after_append m ms (Ack ∷ [])) ∙ (ack (after m ms) ∙ (scans_keep f scan protect m m live t.1 ∙ mark v t.0 (those live v.held))))
acked_same f mark scan protect ack load live v (NoCycle x) w t = ap f t.1 ∙ load v 0 x

-- the slots that are held on
held_acked : (live : List ℕ) (v : View) (e : ℕ) (w : View) → AcksBy live v (Acked e) w → w.held ≡ those live v.held
held_acked live v e w t = let m : View = marking t.0 live v in let ms = scans m live t.1 in
    ap (λ (y : View). y.held) t.5 ∙ (ap (λ (y : View). y.held) (after_append m ms (Ack ∷ [])) ∙ scans_keep (λ (y : View). y.held) (λ _ _. refl) (λ _ _ _. refl) m m live t.1)

pub names_acked : (live : List ℕ) (v : View) (r : Marked) (w : View) → AcksBy live v r w → w.fixed ≡ v.fixed → v.fixed ≡ fixed_slots → HoldsAfter live (names v) r (names w)
names_acked live v (Acked e) w t same fixed_is = let held = held_acked live v e w t in
    (λ i. named (same i ++ held i)) ∙ (ap (λ (l : List Held). named (l ++ those live v.held)) fixed_is ∙ (kept_named live v.held ∙ ap (λ (l : List Held). cut live (named (l ++ v.held))) (sym fixed_is)))
names_acked live v (NoCycle x) w t same fixed_is = ap names t.1
