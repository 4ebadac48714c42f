-- What an engine's atoms are after a call that changes but what they hold.
use Rattle.std.proofs.Common.{◌≡◌, true, map, sym, ap, subst, Option}
use Rattle.atomic_table.specs.Seated.{TableId}
use Rattle.atom_words.specs.Seats.{seen}
use Rattle.atom_words.specs.declared.size.Size.{Size}
use Rattle.atom_words.specs.declared.view.View.{View}
use Rattle.atom_words.specs.declared.words.Words.{Words}
use Rattle.atom_table.specs.Holding.{IsEngine, unspelled}
use Rattle.atom_table.specs.Naming.{requests}
use Rattle.atom_table.specs.Tables.{are_so}
use Rattle.atom_table.specs.declared.seats.Keeper.{Keeper}
use Rattle.atom_table.proofs.Refusals.{so_same}
use Rattle.atom_table.proofs.Settling.{engine_by}
use Rattle.counted_terms.specs.Keeping.{KeeperAt, KeeperIn, Stays}

-- the keeper of the table that is named is that of these words
pub keeper_in : (w : Words) (t : TableId) (z : Size) (k : Option Keeper) → w.table.shared.table_id ≡ t → w.size ≡ z → KeeperAt t z k → KeeperIn w k
keeper_in w t z k named sized at = subst (λ (y : Size). KeeperAt w.table.shared.table_id y k) (sym sized) (subst (λ (u : TableId). KeeperAt u z k) (sym named) at)

pub keeper_at : (w : Words) (t : TableId) (z : Size) (k : Option Keeper) → w.table.shared.table_id ≡ t → w.size ≡ z → KeeperIn w k → KeeperAt t z k
keeper_at w t z k named sized is = subst (λ (y : Size). KeeperAt t y k) sized (subst (λ (u : TableId). KeeperAt u w.size k) named is)

pub stays_engine : (v w : View) → Stays v w → IsEngine v → IsEngine w
stays_engine v w s e = engine_by v w s.cycle s.sweep e

pub stays_so : (v w : View) → Stays v w → are_so v ≡ true → are_so w ≡ true
stays_so v w s so = so_same v w s.refusals s.size so

pub stays_requests : (v w : View) → Stays v w → requests w ≡ requests v
stays_requests v w s = ap (λ l. map unspelled l) s.asked
