-- A vector of texts, and the index from their bytes to the numbers of their slots.
use Rattle.std.specs.Prelude.{◌≡◌, ◌≤◌, ◌==◌, ◌||◌, ◌↔◌, ℕ, List, Option, Some, None, true, get_or, nat_lt, encode_utf8_all, if◌then◌else◌}
use Rattle.std.specs.List.{list_any}
use Rattle.std.specs.Str.{all_scalars}
use Rattle.pl_term.specs.Tree.{Chars}
use Rattle.pl_term.specs.Texts.{size}
use Rattle.atom_api.specs.Names.{Names}

-- The texts as a map from their slots.
abbrev pub names_of : List (Option Chars) → Names
names_of texts k = get_or texts k None

-- The index finds a slot for the bytes of a text exactly where the text stands there.
abbrev pub Indexed : (List ℕ → Option ℕ) → Names → Type 0
Indexed find m = (k : ℕ) (t : Chars) → (find (encode_utf8_all t) ≡ Some k) ↔ (m k ≡ Some t)

-- Each text is one of at most 248 bytes.
abbrev pub Fitting : Names → Type 0
Fitting m = (k : ℕ) (t : Chars) → m k ≡ Some t → (size t ≤ 248) × (all_scalars t ≡ true)

-- The map without a slot.
abbrev pub without : Names → ℕ → Names
without m a k = if k == a then None else m k

-- The map without the slots from `from` on that the list does not name.
abbrev pub swept : ℕ → List ℕ → Names → Names
swept from live m k = if nat_lt k from || list_any (λ a. a == k) live then m k else None
