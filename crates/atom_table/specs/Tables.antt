-- Which table atoms are of, and what the refusals that a seat was given say.
use Rattle.std.specs.Prelude.{◌≡◌, ◌==◌, [], ℕ, Bool, true, false, None, refl, nat_le}
use Rattle.std.specs.List.{list_all}
use Rattle.std.specs.Coded.{Coded, Coded-set, code_by, coded×, coded_ℕ}
use Rattle.atomic_table.specs.Seated.{TableId, table_id_coded}
use Rattle.atom_words.specs.Layout.{version_of, worn}
use Rattle.atom_words.specs.declared.size.Size.{Size}
use Rattle.atom_words.specs.declared.view.Refusal.{Refusal}
use Rattle.atom_words.specs.declared.view.Refusal.TheVariants.{Full, Again, Worn}
use Rattle.atom_words.specs.declared.view.View.{View}
use Rattle.atom_words.specs.declared.words.AtomSeat.{AtomSeat}
use Rattle.atom_words.specs.Seats.{seen}
use Rattle.atom_table.specs.Holding.{Sound}

-- a name for no table, and its size
abbrev pub no_table : TableId
no_table = record { words = 0; slots = 0; views_name = 0; atom = 0; block = 0; offset = 0; slot_names = [] }

abbrev pub no_size : Size
no_size = record { slots = 0; engines = 0; heads = 0; start = 0; fixed = 0 }

abbrev pub coded_size : Coded Size
coded_size =
    code_by
    (ℕ × (ℕ × (ℕ × (ℕ × ℕ))))
    (coded× coded_ℕ (coded× coded_ℕ (coded× coded_ℕ (coded× coded_ℕ coded_ℕ))))
    (λ z. (z.slots, (z.engines, (z.heads, (z.start, z.fixed)))))
    (λ p. record { slots = p.0; engines = p.1.0; heads = p.1.1.0; start = p.1.1.1.0; fixed = p.1.1.1.1 })
    (λ _. refl)

-- there is one way in which two names of tables are equal, and one for two sizes
pub table_is : (t u : TableId) → IsProp (t ≡ u)
table_is = Coded-set table_id_coded

pub size_is : (y z : Size) → IsProp (y ≡ z)
size_is = Coded-set coded_size

-- WHAT A REFUSAL SAYS IS SO: the pass of one for want of slots counted all slots, and the head of one for wear has one of the last two versions
abbrev pub is_so : ℕ → Refusal → Bool
is_so slots (Full p) = p.counted == slots
is_so slots (Again c) = true
is_so slots (Worn x) = nat_le worn (version_of x.word)

abbrev pub are_so : View → Bool
are_so v = list_all (is_so v.size.slots) v.refusals

-- a seat of the table with this number and this size, between its calls
abbrev pub SitsAt : TableId → Size → AtomSeat → Type 0
SitsAt t z s = ((s.seat.table_id ≡ t) × ((seen s).size ≡ z) × ((seen s).gone ≡ false)) × ((seen s).own ≡ None) × Sound (seen s)
