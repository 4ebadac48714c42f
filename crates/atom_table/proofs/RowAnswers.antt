-- The steps of a change of rows, by the answer.
use Rattle.std.proofs.Common.{◌≡◌, ◌≢◌, ℕ, ◌^◌, List, refl, sym, ap, ◌∙◌, subst, Option, Some, None}
use Rattle.atom_words.specs.Kinds.{RowOk}
use Rattle.atom_words.specs.declared.size.Size.{Size}
use Rattle.atom_words.specs.declared.view.View.{View}
use Rattle.bucket_rows.specs.RowChanges.{RowSteps}
use Rattle.bucket_rows.proofs.RowLaws.{rows_both}
use Rattle.atom_table.specs.Resizing.{HasFound, AllOpen, ResizesBy}
use Rattle.atom_table.specs.declared.resizing.Resized.{Resized}
use Rattle.atom_table.specs.declared.resizing.Resized.TheVariants.{Changed, AtLimit, Going}

-- such an answer after further steps, but for that of a table that has no such row
pub resizes_after : (row aim : ℕ) (u v : View) (r : Resized) (w : View) → ((n : ℕ) → r ≢ AtLimit n None) → RowSteps u v → ResizesBy row aim v r w → ResizesBy row aim u r w
resizes_after row aim u v Changed w real s t = (rows_both u v w s t.0, t.1)
resizes_after row aim u v (AtLimit n None) w real s t = absurd (real n refl)
resizes_after row aim u v (AtLimit n (Some x)) w real s t = (t.0, rows_both u v w s t.1, t.2, t.3)
resizes_after row aim u v Going w real s t = rows_both u v w s t

-- such an answer of a change whose row was another name for the same one, where the row stays
pub row_before : (row other aim : ℕ) (v : View) (r : Resized) (w : View) → ((n : ℕ) → r ≢ AtLimit n None) → ((n x : ℕ) → r ≡ AtLimit n (Some x) → row ≡ other) → ResizesBy row aim v r w → ResizesBy other aim v r w
row_before row other aim v Changed w real stays t = t
row_before row other aim v (AtLimit n None) w real stays t = absurd (real n refl)
row_before row other aim v (AtLimit n (Some x)) w real stays t = let same : row ≡ other = stays n x refl in (t.0 ∙ ap (λ (m : ℕ). 2 ^ m) same, t.1, (t.2.0 ∙ same, t.2.1), t.3)
row_before row other aim v Going w real stays t = t
