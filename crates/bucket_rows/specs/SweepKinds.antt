-- The kinds of steps that the sweep of slots makes.
use Rattle.std.specs.Prelude.{◌≡◌, ℕ, ◌+◌, ◌*◌, ◌≤◌, List, [], ◌∷◌, length, option_map}
use Rattle.atom_words.specs.declared.view.Sweeping.{Sweeping}
use Rattle.atom_words.specs.declared.view.View.{View}
use Rattle.atom_words.specs.declared.kind.Kind.{Kind}
use Rattle.atom_words.specs.declared.kind.Kind.TheVariants.{Load, Start, Next, Look, Spell, Condemn, PassOver, Behind, UnlinkAt, UnlinkHead, Note, Bump, Past, Free}

abbrev pub SweepKind : Kind → Type 0
SweepKind (Load i x) = Unit {0}
SweepKind (Start h x) = Unit {0}
SweepKind (Next x) = Unit {0}
SweepKind (Look x) = Unit {0}
SweepKind (Spell x) = Unit {0}
SweepKind Condemn = Unit {0}
SweepKind (PassOver x) = Unit {0}
SweepKind (Behind x) = Unit {0}
SweepKind (UnlinkAt q) = Unit {0}
SweepKind UnlinkHead = Unit {0}
SweepKind (Note x) = Unit {0}
SweepKind Bump = Unit {0}
SweepKind (Past x) = Unit {0}
SweepKind Free = Unit {0}
SweepKind kind = ⊥

abbrev pub SweepKinds : List Kind → Type 0
SweepKinds [] = Unit {0}
SweepKinds (k ∷ ks) = SweepKind k × SweepKinds ks

-- how many walks begin
abbrev pub is_start : Kind → ℕ
is_start (Start h x) = 1
is_start kind = 0

abbrev pub starts : List Kind → ℕ
starts [] = 0
starts (k ∷ ks) = is_start k + starts ks

-- THE BOUND: so many steps at most, beside a walk over no more slots than there are for each walk that begins; and so many walks at most
abbrev pub Few : ℕ → ℕ → ℕ → List Kind → Type 0
Few slots most walks ks = (length ks ≤ most + starts ks * (slots + 1)) × (starts ks ≤ walks)

-- what such steps leave of the view; and of what the collector knows the rows, the epoch word, and how many engines are checked
pub record Untouched (v w : View) : Type 0 where
  pub gone : w.gone ≡ v.gone
  pub size : w.size ≡ v.size
  pub own : w.own ≡ v.own
  pub held : w.held ≡ v.held
  pub fixed : w.fixed ≡ v.fixed
  pub counts : w.counts ≡ v.counts
  pub cycle : w.cycle ≡ v.cycle
  pub growing : w.growing ≡ v.growing
  pub word : option_map (λ (y : Sweeping). y.word) w.sweep ≡ option_map (λ (y : Sweeping). y.word) v.sweep
  pub checked : option_map (λ (y : Sweeping). y.checked) w.sweep ≡ option_map (λ (y : Sweeping). y.checked) v.sweep
