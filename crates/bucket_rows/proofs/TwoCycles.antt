-- The law of two cycles.
use Rattle.std.proofs.Common.{◌≡◌, ◌≢◌, ◌⊎◌, ℕ, zero, suc, ◌+◌, ◌<◌, ◌≤◌, false, List, [], ◌∷◌, set, get_or, refl, sym, ap, ◌∙◌, subst, inl, inr, ⊎_elim, arith, Some, None, option_map}
use mathlib.Core.Option.{some}
use mathlib.Core.Logic.{dite}
use native.Mathlib.Decide.{ℕ_discrete}
use lib.ListN.{get_elem?}
use Rattle.atom_words.specs.Layout.{state_of, count_of, phase_of, epoch_of}
use Rattle.atom_words.specs.Board.{Board, atom}
use Rattle.atom_words.specs.Kinds.{checking, looking, spelling, with_behind, unlinking, noting, moving_past, view_after, Does}
use Rattle.atom_words.specs.Rule.{Moves, goes, makes, joins, splits, Reached}
use Rattle.atom_words.specs.Kept.{Kept}
use Rattle.atom_words.specs.declared.size.Size.{Size}
use Rattle.atom_words.specs.declared.view.Sweeping.{Sweeping}
use Rattle.atom_words.specs.declared.view.View.{View}
use Rattle.atom_words.specs.declared.kind.Kind.{Kind}
use Rattle.atom_words.specs.declared.kind.Kind.TheVariants.{Raise, Risen, Reserve, Measure, PutWord, Fill, PutLink, Link, Validate, Release, Load, Refused, Start, Read, Next, Skip, Hold, Keep, Fix, StartPass, EndPass, Refuse, Barred, Ask, Protect, Fetch, Register, Unregister, Begin, Mark, Scan, Ack, Check, ToSweep, Look, Spell, Condemn, PassOver, Behind, UnlinkAt, UnlinkHead, Note, Bump, Past, Free, End, Aim, Sound, Close, Emptied, Pick, MoveHead, MoveLink, LeaveHead, LeaveLink, PublishRow, Publish}
use Rattle.atom_words.proofs.Puts.{unmapped}
use Rattle.atom_words.proofs.Every.{keep_move, reached_kept}
use Rattle.bucket_rows.specs.TwoCycles.{Calm, CalmMove, Leads, ScanMove, Scanned, NoneReserved}
use Rattle.bucket_rows.proofs.Stages.{Stage, all_passed}
use Rattle.bucket_rows.proofs.CalmSteps.{same_words, made_covered, joined_covered, split_covered, quiet, own_none, begins, turns, ends, scans, passes, condemns, frees}

-- a step of the collector that leaves the cursor
steady : (f : Sweeping → Sweeping) → ((y : Sweeping) → (f y).cursor ≡ y.cursor) → (v : View) (q : Sweeping) → option_map f v.sweep ≡ Some q → (y : Sweeping) × (v.sweep ≡ Some y) × (q.cursor ≡ y.cursor)
steady f same v q e = let was = unmapped f v.sweep q e in (was.0, was.1, ap (λ (t : Sweeping). t.cursor) (sym was.2) ∙ same was.0)

module _ (z : Size) (e : ℕ) (old : List ℕ) (b : Board) (vs : List View) (r : Kept z b vs) (D E : ℕ → Type 0) (s : Stage z e old b.epoch b.atoms vs D) (on : (k : ℕ) → D k → E k) where
  module _ (id : ℕ) (v : View) (at : get_elem? vs id ≡ some v) (here : v.gone ≡ false) (b' : Board) where
    flat : (kind : Kind) → ((k : ℕ) → kind ≢ Scan k) → ((k : ℕ) → E k → D k ⊎ ((kind ≡ Scan k) × (v.cycle.scanned_at ≡ e))) → (k : ℕ) → E k → D k
    flat kind other back k t = ⊎_elim (λ (o : D k). o) (λ (o : (kind ≡ Scan k) × (v.cycle.scanned_at ≡ e)). absurd (other k o.0)) (back k t)

    calm_kind : (kind : Kind) → ((k : ℕ) → E k → D k ⊎ ((kind ≡ Scan k) × (v.cycle.scanned_at ≡ e))) → ((k : ℕ) → kind ≡ Scan k → v.cycle.scanned_at ≡ e → E k) → Calm v kind → Does z b v kind b' → Stage z e old b'.epoch b'.atoms (set vs id (view_after v kind)) E
    calm_kind (Reserve k) back here_ calm d = absurd calm
    calm_kind (Protect k x) back here_ calm d = absurd calm
    calm_kind (Fetch k) back here_ calm d = absurd calm
    calm_kind (Register a) back here_ calm d = absurd calm
    calm_kind (Unregister k) back here_ calm d = absurd calm
    calm_kind Validate back here_ calm d = absurd (let no : None ≡ Some d.0 = sym (own_none z e old b vs r D E s on id v at here) ∙ d.1 in cc)
    calm_kind Release back here_ calm d = absurd (let no : None ≡ Some d.0 = sym (own_none z e old b vs r D E s on id v at here) ∙ d.1 in cc)
    calm_kind (Measure x) back here_ calm d = absurd (let no : None ≡ Some d.0 = sym (own_none z e old b vs r D E s on id v at here) ∙ d.1 in cc)
    calm_kind Fill back here_ calm d = absurd (let no : None ≡ Some d.0 = sym (own_none z e old b vs r D E s on id v at here) ∙ d.1 in cc)
    calm_kind (PutWord x) back here_ calm d = absurd (let no : None ≡ Some d.0 = sym (own_none z e old b vs r D E s on id v at here) ∙ d.1 in cc)
    calm_kind (PutLink l) back here_ calm d = absurd (let no : None ≡ Some d.0 = sym (own_none z e old b vs r D E s on id v at here) ∙ d.1 in cc)
    calm_kind Link back here_ calm d = absurd (let no : None ≡ Some d.0 = sym (own_none z e old b vs r D E s on id v at here) ∙ d.2 in cc)
    calm_kind (Scan k) back here_ calm d = scans z e old b vs r D E s on id v at here k b' (λ i t. ⊎_elim (λ (o : D i). inl o) (λ (o : (Scan k ≡ Scan i) × (v.cycle.scanned_at ≡ e)). inr ((let one : k ≡ i = (let is = o.0 in cc) in one), o.1)) (back i t)) (λ now. here_ k refl now) d
    calm_kind Begin back here_ calm d = begins z e old b vs r D E s on id v at here b' (flat Begin (λ k e. cc) back) d
    calm_kind ToSweep back here_ calm d = turns z e old b vs r D E s on id v at here b' (flat ToSweep (λ k e. cc) back) d
    calm_kind End back here_ calm d = ends z e old b vs r D E s on id v at here b' (flat End (λ k e. cc) back) d
    calm_kind (PassOver x) back here_ calm d = passes z e old b vs r D E s on id v at here x b' (flat (PassOver x) (λ k e. cc) back) calm d
    calm_kind Condemn back here_ calm d = condemns z e old b vs r D E s on id v at here b' (flat Condemn (λ k e. cc) back) d
    calm_kind Free back here_ calm d = frees z e old b vs r D E s on id v at here b' (flat Free (λ k e. cc) back) d
    calm_kind (Raise h) back here_ calm d = quiet z e old b vs r D E s on id v at here (Raise h) b' (flat (Raise h) (λ k e. cc) back) (ap (λ (x : Board). x.atoms) d.4) (ap (λ (x : Board). x.epoch) d.4) (λ n. n) (λ q h. (q, h, refl))
    calm_kind (Risen h x) back here_ calm d = quiet z e old b vs r D E s on id v at here (Risen h x) b' (flat (Risen h x) (λ k e. cc) back) (ap (λ (x : Board). x.atoms) d.3) (ap (λ (x : Board). x.epoch) d.3) (λ n. n) (λ q h. (q, h, refl))
    calm_kind (Load i x) back here_ calm d = quiet z e old b vs r D E s on id v at here (Load i x) b' (flat (Load i x) (λ k e. cc) back) (ap (λ (x : Board). x.atoms) d.1) (ap (λ (x : Board). x.epoch) d.1) (λ n. n) (λ q h. (q, h, refl))
    calm_kind (Refused i a f) back here_ calm d = quiet z e old b vs r D E s on id v at here (Refused i a f) b' (flat (Refused i a f) (λ k e. cc) back) (ap (λ (x : Board). x.atoms) d.3) (ap (λ (x : Board). x.epoch) d.3) (λ n. n) (λ q h. (q, h, refl))
    calm_kind (Start h x) back here_ calm d = quiet z e old b vs r D E s on id v at here (Start h x) b' (flat (Start h x) (λ k e. cc) back) (ap (λ (x : Board). x.atoms) d.3) (ap (λ (x : Board). x.epoch) d.3) (λ n. n) (λ q h. (q, h, refl))
    calm_kind (Read x) back here_ calm d = quiet z e old b vs r D E s on id v at here (Read x) b' (flat (Read x) (λ k e. cc) back) (ap (λ (x : Board). x.atoms) d.6) (ap (λ (x : Board). x.epoch) d.6) (λ n. n) (λ q h. (q, h, refl))
    calm_kind (Next x) back here_ calm d = quiet z e old b vs r D E s on id v at here (Next x) b' (flat (Next x) (λ k e. cc) back) (ap (λ (x : Board). x.atoms) d.5) (ap (λ (x : Board). x.epoch) d.5) (λ n. n) (λ q h. (q, h, refl))
    calm_kind (Skip x) back here_ calm d = quiet z e old b vs r D E s on id v at here (Skip x) b' (flat (Skip x) (λ k e. cc) back) (ap (λ (x : Board). x.atoms) d.7) (ap (λ (x : Board). x.epoch) d.7) (λ n. n) (λ q h. (q, h, refl))
    calm_kind Hold back here_ calm d = quiet z e old b vs r D E s on id v at here Hold b' (flat Hold (λ k e. cc) back) (ap (λ (x : Board). x.atoms) d.8) (ap (λ (x : Board). x.epoch) d.8) (λ n. n) (λ q h. (q, h, refl))
    calm_kind (Keep those) back here_ calm d = quiet z e old b vs r D E s on id v at here (Keep those) b' (flat (Keep those) (λ k e. cc) back) (ap (λ (x : Board). x.atoms) d.1) (ap (λ (x : Board). x.epoch) d.1) (λ n. n) (λ q h. (q, h, refl))
    calm_kind Fix back here_ calm d = quiet z e old b vs r D E s on id v at here Fix b' (flat Fix (λ k e. cc) back) (ap (λ (x : Board). x.atoms) d.1) (ap (λ (x : Board). x.epoch) d.1) (λ n. n) (λ q h. (q, h, refl))
    calm_kind (StartPass x) back here_ calm d = quiet z e old b vs r D E s on id v at here (StartPass x) b' (flat (StartPass x) (λ k e. cc) back) (ap (λ (x : Board). x.atoms) d.1) (ap (λ (x : Board). x.epoch) d.1) (λ n. n) (λ q h. (q, h, refl))
    calm_kind (EndPass x) back here_ calm d = quiet z e old b vs r D E s on id v at here (EndPass x) b' (flat (EndPass x) (λ k e. cc) back) (ap (λ (x : Board). x.atoms) d.3) (ap (λ (x : Board). x.epoch) d.3) (λ n. n) (λ q h. (q, h, refl))
    calm_kind (Refuse c) back here_ calm d = quiet z e old b vs r D E s on id v at here (Refuse c) b' (flat (Refuse c) (λ k e. cc) back) (ap (λ (x : Board). x.atoms) d.1) (ap (λ (x : Board). x.epoch) d.1) (λ n. n) (λ q h. (q, h, refl))
    calm_kind (Barred h x) back here_ calm d = quiet z e old b vs r D E s on id v at here (Barred h x) b' (flat (Barred h x) (λ k e. cc) back) (ap (λ (y : Board). y.atoms) d.3) (ap (λ (y : Board). y.epoch) d.3) (λ n. n) (λ q h. (q, h, refl))
    calm_kind (Ask t) back here_ calm d = quiet z e old b vs r D E s on id v at here (Ask t) b' (flat (Ask t) (λ k e. cc) back) (ap (λ (x : Board). x.atoms) d) (ap (λ (x : Board). x.epoch) d) (λ n. n) (λ q h. (q, h, refl))
    calm_kind (Mark x those) back here_ calm d = quiet z e old b vs r D E s on id v at here (Mark x those) b' (flat (Mark x those) (λ k e. cc) back) (ap (λ (x : Board). x.atoms) d.5) (ap (λ (x : Board). x.epoch) d.5) (λ n. n) (λ q h. (q, h, refl))
    calm_kind Ack back here_ calm d = quiet z e old b vs r D E s on id v at here Ack b' (flat Ack (λ k e. cc) back) (ap (λ (x : Board). x.atoms) d.2) (ap (λ (x : Board). x.epoch) d.2) (λ n. n) (λ q h. (q, h, refl))
    calm_kind (Check i) back here_ calm d = quiet z e old b vs r D E s on id v at here (Check i) b' (flat (Check i) (λ k e. cc) back) (ap (λ (x : Board). x.atoms) d.6) (ap (λ (x : Board). x.epoch) d.6) (λ n. n) (steady checking (λ _. refl) v)
    calm_kind (Look x) back here_ calm d = quiet z e old b vs r D E s on id v at here (Look x) b' (flat (Look x) (λ k e. cc) back) (ap (λ (x : Board). x.atoms) d.5) (ap (λ (x : Board). x.epoch) d.5) (λ n. n) (steady (looking x) (λ _. refl) v)
    calm_kind (Spell x) back here_ calm d = quiet z e old b vs r D E s on id v at here (Spell x) b' (flat (Spell x) (λ k e. cc) back) (ap (λ (x : Board). x.atoms) d.6) (ap (λ (x : Board). x.epoch) d.6) (λ n. n) (steady (spelling x) (λ _. refl) v)
    calm_kind (Behind x) back here_ calm d = quiet z e old b vs r D E s on id v at here (Behind x) b' (flat (Behind x) (λ k e. cc) back) (ap (λ (x : Board). x.atoms) d.3) (ap (λ (x : Board). x.epoch) d.3) (λ n. n) (steady (with_behind x) (λ _. refl) v)
    calm_kind (UnlinkAt q) back here_ calm d = quiet z e old b vs r D E s on id v at here (UnlinkAt q) b' (flat (UnlinkAt q) (λ k e. cc) back) (ap (λ (x : Board). x.atoms) d.8) (ap (λ (x : Board). x.epoch) d.8) (λ n. n) (steady (unlinking false) (λ _. refl) v)
    calm_kind UnlinkHead back here_ calm d = quiet z e old b vs r D E s on id v at here UnlinkHead b' (flat UnlinkHead (λ k e. cc) back) (ap (λ (x : Board). x.atoms) d.8) (ap (λ (x : Board). x.epoch) d.8) (λ n. n) (steady (unlinking Rattle.std.proofs.Common.true) (λ _. refl) v)
    calm_kind (Note x) back here_ calm d = quiet z e old b vs r D E s on id v at here (Note x) b' (flat (Note x) (λ k e. cc) back) (ap (λ (x : Board). x.atoms) d.3) (ap (λ (x : Board). x.epoch) d.3) (λ n. n) (steady (noting x) (λ _. refl) v)
    calm_kind Bump back here_ calm d = quiet z e old b vs r D E s on id v at here Bump b' (flat Bump (λ k e. cc) back) (ap (λ (x : Board). x.atoms) d.6) (ap (λ (x : Board). x.epoch) d.6) (λ n. n) (steady moving_past (λ _. refl) v)
    calm_kind (Past x) back here_ calm d = quiet z e old b vs r D E s on id v at here (Past x) b' (flat (Past x) (λ k e. cc) back) (ap (λ (x : Board). x.atoms) d.6) (ap (λ (x : Board). x.epoch) d.6) (λ n. n) (steady moving_past (λ _. refl) v)
    calm_kind (Aim row) back here_ calm d = quiet z e old b vs r D E s on id v at here (Aim row) b' (flat (Aim row) (λ k e. cc) back) (ap (λ (x_ : Board). x_.atoms) d.3) (ap (λ (x_ : Board). x_.epoch) d.3) (λ n. n) (λ q_ h_. (q_, h_, refl))
    calm_kind (Sound x) back here_ calm d = quiet z e old b vs r D E s on id v at here (Sound x) b' (flat (Sound x) (λ k e. cc) back) (ap (λ (x_ : Board). x_.atoms) d.6) (ap (λ (x_ : Board). x_.epoch) d.6) (λ n. n) (λ q_ h_. (q_, h_, refl))
    calm_kind (Close h) back here_ calm d = quiet z e old b vs r D E s on id v at here (Close h) b' (flat (Close h) (λ k e. cc) back) (ap (λ (x_ : Board). x_.atoms) d.5) (ap (λ (x_ : Board). x_.epoch) d.5) (λ n. n) (λ q_ h_. (q_, h_, refl))
    calm_kind Emptied back here_ calm d = quiet z e old b vs r D E s on id v at here Emptied b' (flat Emptied (λ k e. cc) back) (ap (λ (x_ : Board). x_.atoms) d.4) (ap (λ (x_ : Board). x_.epoch) d.4) (λ n. n) (λ q_ h_. (q_, h_, refl))
    calm_kind (Pick a before) back here_ calm d = quiet z e old b vs r D E s on id v at here (Pick a before) b' (flat (Pick a before) (λ k e. cc) back) (ap (λ (x_ : Board). x_.atoms) d.9) (ap (λ (x_ : Board). x_.epoch) d.9) (λ n. n) (λ q_ h_. (q_, h_, refl))
    calm_kind (MoveHead h) back here_ calm d = quiet z e old b vs r D E s on id v at here (MoveHead h) b' (flat (MoveHead h) (λ k e. cc) back) (ap (λ (x_ : Board). x_.atoms) d.6) (ap (λ (x_ : Board). x_.epoch) d.6) (λ n. n) (λ q_ h_. (q_, h_, refl))
    calm_kind (MoveLink q) back here_ calm d = quiet z e old b vs r D E s on id v at here (MoveLink q) b' (flat (MoveLink q) (λ k e. cc) back) (ap (λ (x_ : Board). x_.atoms) d.9) (ap (λ (x_ : Board). x_.epoch) d.9) (λ n. n) (λ q_ h_. (q_, h_, refl))
    calm_kind (LeaveHead h) back here_ calm d = quiet z e old b vs r D E s on id v at here (LeaveHead h) b' (flat (LeaveHead h) (λ k e. cc) back) (ap (λ (x_ : Board). x_.atoms) d.4) (ap (λ (x_ : Board). x_.epoch) d.4) (λ n. n) (λ q_ h_. (q_, h_, refl))
    calm_kind (LeaveLink q) back here_ calm d = quiet z e old b vs r D E s on id v at here (LeaveLink q) b' (flat (LeaveLink q) (λ k e. cc) back) (ap (λ (x_ : Board). x_.atoms) d.3) (ap (λ (x_ : Board). x_.epoch) d.3) (λ n. n) (λ q_ h_. (q_, h_, refl))
    calm_kind (PublishRow row) back here_ calm d = quiet z e old b vs r D E s on id v at here (PublishRow row) b' (flat (PublishRow row) (λ k e. cc) back) (ap (λ (x_ : Board). x_.atoms) d.5) (ap (λ (x_ : Board). x_.epoch) d.5) (λ n. n) (λ q_ h_. (q_, h_, refl))
    calm_kind (Publish h) back here_ calm d = quiet z e old b vs r D E s on id v at here (Publish h) b' (flat (Publish h) (λ k e. cc) back) (ap (λ (x_ : Board). x_.atoms) d.5) (ap (λ (x_ : Board). x_.epoch) d.5) (λ n. n) (λ q_ h_. (q_, h_, refl))
    calm_kind _ back here_ calm d = absurd d

-- one step more
calm_move : (z : Size) (e : ℕ) (old : List ℕ) (b : Board) (vs : List View) (b' : Board) (vs' : List View) → Kept z b vs → (D : ℕ → Type 0) → Stage z e old b.epoch b.atoms vs D → (m : Moves z b vs b' vs') → CalmMove z b vs b' vs' m
    → Stage z e old b'.epoch b'.atoms vs' (λ k. D k ⊎ ScanMove e k z b vs b' vs' m)
calm_move z e old b vs b' vs' r D s (goes g) calm = let E : ℕ → Type 0 = λ k. D k ⊎ ((g.kind ≡ Scan k) × (g.view.cycle.scanned_at ≡ e)) in
    subst (λ (l : List View). Stage z e old b'.epoch b'.atoms l E) (sym g.views) (calm_kind z e old b vs r D E s (λ k t. inl t) g.id g.view g.at g.here b' g.kind (λ k t. t) (λ k is now. inr (is, now)) calm g.does)
calm_move z e old b vs b' vs' r D s (makes f g) calm = let E : ℕ → Type 0 = λ k. D k ⊎ ⊥ in
    subst (λ (l : List View). Stage z e old b'.epoch b'.atoms l E) (sym g) (same_words z e old b vs r D E s (λ k t. inl t) b' _ (ap (λ (x : Board). x.atoms) f) (ap (λ (x : Board). x.epoch) f) (λ k t. ⊎_elim (λ (o : D k). o) (λ (o : ⊥). absurd o) t) (made_covered z e old b vs r D E s (λ k t. inl t)))
calm_move z e old b vs b' vs' r D s (joins j) calm = let E : ℕ → Type 0 = λ k. D k ⊎ ⊥ in
    same_words z e old b vs r D E s (λ k t. inl t) b' vs' (ap (λ (x : Board). x.atoms) j.words) (ap (λ (x : Board). x.epoch) j.words) (λ k t. ⊎_elim (λ (o : D k). o) (λ (o : ⊥). absurd o) t) (joined_covered z e old b vs r D E s (λ k t. inl t) b' vs' j)
calm_move z e old b vs b' vs' r D s (splits p) calm = let E : ℕ → Type 0 = λ k. D k ⊎ ⊥ in
    same_words z e old b vs r D E s (λ k t. inl t) b' vs' (ap (λ (x : Board). x.atoms) p.words) (ap (λ (x : Board). x.epoch) p.words) (λ k t. ⊎_elim (λ (o : D k). o) (λ (o : ⊥). absurd o) t) (split_covered z e old b vs r D E s (λ k t. inl t) b' vs' p)

-- before the first cycle
start : (z : Size) (b : Board) (vs : List View) → NoneReserved vs → phase_of b.epoch ≡ 0 → Stage z (epoch_of b.epoch + 2) b.atoms b.epoch b.atoms vs (λ _. ⊥)
start z b vs none idle = record { none = none; low = λ k l. refl; early = λ h k d. d; upto = z.slots; at = inl (idle, refl); first = λ h. absurd (omega arith); second = λ h. absurd (omega arith) }

pub all_leads : (n : ℕ) (z : Size) (b0 : Board) (vs0 : List View) (b : Board) (vs : List View) (l : Leads n z b0 vs0 b vs) → Kept z b0 vs0 → NoneReserved vs0 → phase_of b0.epoch ≡ 0
    → Kept z b vs × Stage z (epoch_of b0.epoch + 2) b0.atoms b.epoch b.atoms vs (λ k. Scanned (epoch_of b0.epoch + 2) k n z b0 vs0 b vs l)
all_leads zero z b0 vs0 b vs l r none idle = let P : Board × List View → Type 0 = λ p. Kept z p.0 p.1 × Stage z (epoch_of b0.epoch + 2) b0.atoms p.0.epoch p.0.atoms p.1 (λ _. ⊥) in subst P (λ i. (sym l.0 i, sym l.1 i)) (r, start z b0 vs0 none idle)
all_leads (suc n) z b0 vs0 b vs l r none idle = let p = all_leads n z b0 vs0 l.0 l.1 l.2 r none idle in
    (keep_move z l.0 l.1 b vs p.0 l.3, calm_move z (epoch_of b0.epoch + 2) b0.atoms l.0 l.1 b vs p.0 (λ k. Scanned (epoch_of b0.epoch + 2) k n z b0 vs0 l.0 l.1 l.2) p.1 l.3 l.4)

-- THE LAW OF TWO CYCLES
pub exact : (z : Size) (m n : ℕ) (b0 : Board) (vs0 : List View) (b : Board) (vs : List View) (l : Leads n z b0 vs0 b vs) → Reached m z b0 vs0 → NoneReserved vs0
    → phase_of b0.epoch ≡ 0 → phase_of b.epoch ≡ 0 → epoch_of b.epoch ≡ epoch_of b0.epoch + 2
    → (k : ℕ) → (256 ≤ k → state_of (atom b k) ≡ 3 → (0 < count_of (atom b k)) ⊎ Scanned (epoch_of b0.epoch + 2) k n z b0 vs0 b vs l)
    × ((0 < count_of (atom b k)) ⊎ Scanned (epoch_of b0.epoch + 2) k n z b0 vs0 b vs l → state_of (atom b k) ≡ 3)
    × (k < 256 → state_of (atom b k) ≡ state_of (atom b0 k))
exact z m n b0 vs0 b vs l h none idle still_ two k = let p = all_leads n z b0 vs0 b vs l (reached_kept m z b0 vs0 h) none idle in let s = p.1 in let t = s.second two in
    let all = all_passed z (epoch_of b0.epoch + 2) b0.atoms b.epoch b.atoms vs (λ k. Scanned (epoch_of b0.epoch + 2) k n z b0 vs0 b vs l) s still_ in (
      (λ high valid. t.passed k (subst (λ (c : ℕ). k < c) (sym all) (inside k valid p.0)) high valid),
      (λ u. ⊎_elim (λ (c : 0 < count_of (atom b k)). dite (ℕ_discrete (state_of (atom b k)) 3) (λ v. v) (λ other. absurd (let zero_ = p.0.slots.zero k other in omega arith))) (λ (d : Scanned (epoch_of b0.epoch + 2) k n z b0 vs0 b vs l). t.valid k d) u),
      s.low k,
    )
  where
    inside : (k : ℕ) → state_of (atom b k) ≡ 3 → Kept z b vs → k < z.slots
    inside k valid r = subst (λ (c : ℕ). k < c) r.sized.atoms (below b.atoms k (λ none_. omega (arith, valid, none_)))
      where
        below : (l : List ℕ) (k : ℕ) → (get_or l k 0 ≢ 0) → k < Rattle.std.proofs.Common.length l
        below [] k some_ = absurd (some_ refl)
        below (n ∷ l) zero some_ = omega arith
        below (n ∷ l) (suc k) some_ = let h = below l k some_ in omega arith
