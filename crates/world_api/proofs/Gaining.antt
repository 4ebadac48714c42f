-- How texts are asked of atoms, one part after another.
use Rattle.std.proofs.Common.{◌≡◌, List, [], ◌∷◌, ◌++◌, Option, Some, None, refl, ap, sym, ◌∙◌, append_assoc, append-nil}
use Rattle.std.specs.Option.{option_map}
use Rattle.std.specs.List.{All}
use Rattle.std.proofs.lemmas.List.Elements.{All-nil, All-cons, All-head, All-append, All-weaker}
use Rattle.pl_term.specs.Tree.{Chars}
use Rattle.atom_api.specs.Interns.{asked_with}
use Rattle.atom_api.specs.declared.interned.Interned.{Interned}
use Rattle.atom_api.specs.declared.interned.Interned.TheVariants.{Is, Full, Again, TooLong, Worn, Memory}
use Rattle.world_api.specs.Gains.{Gains}

none_behind : (o : Option (List Chars)) → o ≡ option_map (λ ts. ts ++ []) o
none_behind None = refl
none_behind (Some ts) = ap Some (sym (append-nil ts))

both_behind : (xs ys : List Chars) (o : Option (List Chars)) → option_map (λ ts. ts ++ ys) (option_map (λ ts. ts ++ xs) o) ≡ option_map (λ ts. ts ++ (xs ++ ys)) o
both_behind xs ys None = refl
both_behind xs ys (Some ts) = ap Some (append_assoc ts xs ys)

-- Nothing was asked.
pub gains_nothing : (P : Chars → Type 0) (old new : Option (List Chars)) → new ≡ old → Gains P old new
gains_nothing P old new e = record { more = []; asked = e ∙ none_behind old; each = All-nil P }

all_none : (P : Chars → Type 0) → ((c : Chars) → P c → ⊥) → (ts : List Chars) → All P ts → ts ≡ []
all_none P none [] all = refl
all_none P none (t ∷ ts) all = absurd (none t (All-head P t ts all))

-- Nothing was asked where it holds of no text.
pub gains_none : (P : Chars → Type 0) → ((c : Chars) → P c → ⊥) → (old new : Option (List Chars)) → Gains P old new → new ≡ old
gains_none P none old new g = g.asked ∙ ap (λ l. option_map (λ ts. ts ++ l) old) (all_none P none g.more g.each) ∙ sym (none_behind old)

-- One part after another.
pub gains_then : (P : Chars → Type 0) (a b c : Option (List Chars)) → Gains P a b → Gains P b c → Gains P a c
gains_then P a b c g h =
    record {
      more = g.more ++ h.more;
      asked = h.asked ∙ ap (option_map (λ ts. ts ++ h.more)) g.asked ∙ both_behind g.more h.more a;
      each = All-append P g.more h.more g.each h.each;
    }

-- The same texts, of which something else holds.
pub gains_weaker : (P Q : Chars → Type 0) (old new : Option (List Chars)) → ((c : Chars) → P c → Q c) → Gains P old new → Gains Q old new
gains_weaker P Q old new f g = record { more = g.more; asked = g.asked; each = All-weaker P Q f g.more g.each }

-- The text of one call of `intern`.
pub gains_one : (P : Chars → Type 0) (r : Interned) (t : Chars) (old new : Option (List Chars)) → P t → new ≡ asked_with r t old → Gains P old new
gains_one P (Is a) t old new p e = record { more = t ∷ []; asked = e; each = All-cons P t [] p (All-nil P) }
gains_one P (Full x) t old new p e = record { more = t ∷ []; asked = e; each = All-cons P t [] p (All-nil P) }
gains_one P (Again x) t old new p e = record { more = t ∷ []; asked = e; each = All-cons P t [] p (All-nil P) }
gains_one P (TooLong x) t old new p e = gains_nothing P old new e
gains_one P (Worn x) t old new p e = record { more = t ∷ []; asked = e; each = All-cons P t [] p (All-nil P) }
gains_one P Memory t old new p e = gains_nothing P old new e
