-- The entries of a table that is made of rows.
use Rattle.std.proofs.Common.{◌≡◌, List, [], ◌∷◌, length, refl, sym, ap, ◌∙◌, arith}
use Rattle.std.specs.FinMap.{empty, entries, from_entries, entries-insert, len-entries, len-empty}
use Rattle.std.specs.FinMap.Entries.{put}
use Rattle.pl_model.specs.OperatorTable.{Key, Entry, key_order}
use Rattle.pl_model.proofs.KeyOrder.{key_order_total}

no_entries : {A : Type 0} (es : List A) → length es ≡ 0 → es ≡ []
no_entries [] e = refl
no_entries (x ∷ es) e = absurd (omega arith)

-- Rows are put in their places one after the other, the last first.
abbrev pub puts : List (Key × Entry) → List (Key × Entry)
puts [] = []
puts (e ∷ es) = put key_order e.0 e.1 (puts es)

pub entries-from_entries : (es : List (Key × Entry)) → entries (from_entries {R = key_order} es) ≡ puts es
entries-from_entries [] =
    no_entries (entries (empty {X = Entry} {R = key_order})) (sym (len-entries (empty {X = Entry} {R = key_order})) ∙ len-empty key_order Entry)
entries-from_entries (e ∷ es) =
    entries-insert key_order_total (from_entries {R = key_order} es) e.0 e.1
    ∙ ap (put key_order e.0 e.1) (entries-from_entries es)
