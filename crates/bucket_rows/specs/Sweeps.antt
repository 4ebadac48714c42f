-- What the calls of a sweep ask of the collector's view, and their steps.
use Rattle.std.specs.Prelude.{◌≡◌, ◌≢◌, ◌⊎◌, ◌==◌, if◌then◌else◌, ℕ, ◌+◌, ◌<◌, ◌≤◌, List, [], ◌∷◌, ◌++◌}
use Rattle.atom_words.specs.Layout.{state_of, version_of, last}
use Rattle.atom_words.specs.Texts.{bucket, padded}
use Rattle.atom_words.specs.Board.{atom_at}
use Rattle.atom_words.specs.Kinds.{IsAll, Sweeps, after}
use Rattle.atom_words.specs.declared.view.Sweeping.{Sweeping}
use Rattle.atom_words.specs.declared.view.View.{View}
use Rattle.atom_words.specs.declared.kind.Kind.{Kind}
use Rattle.atom_words.specs.declared.kind.Kind.TheVariants.{Load, Start, Look, Condemn, PassOver, Free}
use Rattle.bucket_rows.specs.declared.slots.Verdict.{Verdict}
use Rattle.bucket_rows.specs.declared.slots.Verdict.TheVariants.{Low, Passed, Worn, Freed}
use Rattle.bucket_rows.specs.Treads.{spells}
use Rattle.bucket_rows.specs.SweepKinds.{SweepKinds, Few}

-- the sweep has come to that slot, and no slot is dying
abbrev pub At : ℕ → View → Type 0
At slot v = (y : Sweeping) × Sweeps v y × (y.dying ≡ 0) × (y.cursor ≡ slot)

-- THE STEPS AT A SLOT before the sweep goes on, by the answer. One below 256 is passed at once. The word that was last read is not 3 (valid, without mark and count); or it was 3 as it was read, and the head of its text's bucket has the last version; or the slot was condemned, and is free
abbrev pub Judges : View → ℕ → Verdict → List Kind → Type 0
Judges v k Low ks = (k < 256) × (ks ≡ [])
Judges v k (Passed x) ks = (x ≢ 3) × ((before : List Kind) × ((ks ≡ before ++ Look x ∷ []) ⊎ (ks ≡ before ++ Load (atom_at v.size k) x ∷ [])))
Judges v k (Worn x) ks = (last ≤ version_of x) × ((words : List ℕ) × (s : ℕ) × IsAll words × (ks ≡ Look 3 ∷ (spells words ++ (Load 1 s ∷ Start (bucket s (padded words)) x ∷ []))))
Judges v k Freed ks = (before : List Kind) × (between : List Kind) × (ks ≡ before ++ Condemn ∷ (between ++ Free ∷ []))

abbrev pub JudgedBy : ℕ → View → Verdict → View → Type 0
JudgedBy k v r w = (ks : List Kind) × (w ≡ after v ks) × Judges v k r ks × SweepKinds ks × Few v.size.slots 40 (last + 1) ks

-- THE STEPS OF THE SWEEP OF A SLOT, which are of the sweep's kinds: those, and the pass that clears its mark. The sweep has come to the next slot. There are at most 42, beside the walks over the chain of the slot's bucket, each but the first of which another seat's step on the chain's head has made needed
abbrev pub SweptBy : ℕ → View → Verdict → View → Type 0
SweptBy k v r w = (ks : List Kind) × (x : ℕ) × (w ≡ after v (ks ++ PassOver x ∷ [])) × Judges v k r ks × SweepKinds ks × Few v.size.slots 41 (last + 1) ks

-- how many slots, 0 or 1, the sweep found valid and left so; one of the first 256 is not looked at
abbrev pub left_valid : Verdict → ℕ
left_valid Low = 0
left_valid (Passed x) = if state_of x == 3 then 1 else 0
left_valid (Worn x) = 1
left_valid Freed = 0

abbrev pub all_left_valid : List Verdict → ℕ
all_left_valid [] = 0
all_left_valid (r ∷ rs) = left_valid r + all_left_valid rs

-- THE STEPS OF A RUN OF SLOTS from the slot k on
abbrev pub Run : ℕ → List Verdict → View → View → Type 0
Run k [] v w = w ≡ v
Run k (r ∷ rs) v w = (u : View) × SweptBy k v r u × Run (k + 1) rs u w
