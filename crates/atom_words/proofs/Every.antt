-- Every reached state keeps the rule.
use Rattle.std.proofs.Common.{ℕ, zero, suc, List, set, sym, subst}
use Rattle.atom_words.specs.Board.{Board}
use Rattle.atom_words.specs.Kinds.{view_after, Does}
use Rattle.atom_words.specs.Rule.{Goes, Moves, goes, makes, joins, splits, Reached}
use Rattle.atom_words.specs.Kept.{SeatOk, Kept}
use Rattle.atom_words.specs.declared.size.Size.{Size}
use Rattle.atom_words.specs.declared.view.View.{View}
use Rattle.atom_words.specs.declared.kind.Kind.{Kind}
use Rattle.atom_words.specs.declared.kind.Kind.TheVariants.{Raise, Risen, Reserve, Measure, PutWord, Fill, PutLink, Link, Validate, Release, Load, Refused, Start, Read, Next, Skip, Hold, Keep, Fix, StartPass, EndPass, Refuse, Barred, Ask, Protect, Fetch, Register, Unregister, Begin, Mark, Scan, Ack, Check, ToSweep, Look, Spell, Condemn, PassOver, Behind, UnlinkAt, UnlinkHead, Note, Bump, Past, Free, End, Make, Split, Join, Aim, Sound, Close, Emptied, Pick, MoveHead, MoveLink, LeaveHead, LeaveLink, PublishRow, Publish}
use Rattle.atom_words.proofs.Loads.{keep_load, keep_refused, keep_start, keep_read, keep_next, keep_skip, keep_hold, keep_keep, keep_fix, keep_start_pass, keep_end_pass, keep_refuse, keep_barred, keep_ask}
use Rattle.atom_words.proofs.AtomSteps.{keep_reserve, keep_validate, keep_release, keep_protect, keep_fetch, keep_register, keep_unregister}
use Rattle.atom_words.proofs.TextSteps.{keep_measure, keep_fill, keep_put_word, keep_put_link}
use Rattle.atom_words.proofs.LinkStep.{keep_link}
use Rattle.atom_words.proofs.RaiseStep.{keep_raise, keep_risen}
use Rattle.atom_words.proofs.Cycles.{keep_begin, keep_mark, keep_scan, keep_ack, keep_check, keep_to_sweep}
use Rattle.atom_words.proofs.Sweeps.{keep_look, keep_spell, keep_behind, keep_note, keep_past, keep_end}
use Rattle.atom_words.proofs.SweepWords.{keep_pass_over, keep_condemn, keep_free}
use Rattle.atom_words.proofs.Unlinks.{keep_unlink_at, keep_unlink_head, keep_bump}
use Rattle.atom_words.proofs.Grows.{keep_aim, keep_sound, keep_close, keep_emptied, keep_publish_row, keep_publish}
use Rattle.atom_words.proofs.Moving.{keep_pick, keep_move_head, keep_move_link, keep_leave_head, keep_leave_link}
use Rattle.atom_words.proofs.SeatSteps.{keep_make, keep_join, keep_split, keep_open}

module _ (z : Size) (b : Board) (vs : List View) (r : Kept z b vs) (id : ℕ) (v : View) (s : SeatOk z b r.plan id v) (b' : Board) where
  pub keep_kind : (kind : Kind) → Does z b v kind b' → Kept z b' (set vs id (view_after v kind))
  keep_kind (Reserve k) d = keep_reserve z b vs r id v s k b' d
  keep_kind (Measure x) d = keep_measure z b vs r id v s x b' d
  keep_kind Fill d = keep_fill z b vs r id v s b' d
  keep_kind (PutWord x) d = keep_put_word z b vs r id v s x b' d
  keep_kind (PutLink l) d = keep_put_link z b vs r id v s l b' d
  keep_kind Link d = keep_link z b vs r id v s b' d
  keep_kind Validate d = keep_validate z b vs r id v s b' d
  keep_kind Release d = keep_release z b vs r id v s b' d
  keep_kind (Load i x) d = keep_load z b vs r id v s i x b' d
  keep_kind (Refused k old found) d = keep_refused z b vs r id v s k old found b' d
  keep_kind (Start h x) d = keep_start z b vs r id v s h x b' d
  keep_kind (Read x) d = keep_read z b vs r id v s x b' d
  keep_kind (Next x) d = keep_next z b vs r id v s x b' d
  keep_kind (Skip x) d = keep_skip z b vs r id v s x b' d
  keep_kind Hold d = keep_hold z b vs r id v s b' d
  keep_kind (Keep those) d = keep_keep z b vs r id v s those b' d
  keep_kind Fix d = keep_fix z b vs r id v s b' d
  keep_kind (StartPass x) d = keep_start_pass z b vs r id v s x b' d
  keep_kind (EndPass x) d = keep_end_pass z b vs r id v s x b' d
  keep_kind (Refuse c) d = keep_refuse z b vs r id v s c b' d
  keep_kind (Barred h x) d = keep_barred z b vs r id v s h x b' d
  keep_kind (Ask t) d = keep_ask z b vs r id v s t b' d
  keep_kind (Protect k x) d = keep_protect z b vs r id v s k x b' d
  keep_kind (Fetch k) d = keep_fetch z b vs r id v s k b' d
  keep_kind (Register a) d = keep_register z b vs r id v s a b' d
  keep_kind (Unregister k) d = keep_unregister z b vs r id v s k b' d
  keep_kind (Raise h) d = keep_raise z b vs r id v s h b' d
  keep_kind (Risen h x) d = keep_risen z b vs r id v s h x b' d
  keep_kind Begin d = keep_begin z b vs r id v s b' d
  keep_kind (Mark x those) d = keep_mark z b vs r id v s x those b' d
  keep_kind (Scan k) d = keep_scan z b vs r id v s k b' d
  keep_kind Ack d = keep_ack z b vs r id v s b' d
  keep_kind (Check e) d = keep_check z b vs r id v s e b' d
  keep_kind ToSweep d = keep_to_sweep z b vs r id v s b' d
  keep_kind (Look x) d = keep_look z b vs r id v s x b' d
  keep_kind (Spell x) d = keep_spell z b vs r id v s x b' d
  keep_kind Condemn d = keep_condemn z b vs r id v s b' d
  keep_kind (PassOver x) d = keep_pass_over z b vs r id v s x b' d
  keep_kind (Behind x) d = keep_behind z b vs r id v s x b' d
  keep_kind (UnlinkAt q) d = keep_unlink_at z b vs r id v s q b' d
  keep_kind UnlinkHead d = keep_unlink_head z b vs r id v s b' d
  keep_kind (Note x) d = keep_note z b vs r id v s x b' d
  keep_kind Bump d = keep_bump z b vs r id v s b' d
  keep_kind (Past x) d = keep_past z b vs r id v s x b' d
  keep_kind Free d = keep_free z b vs r id v s b' d
  keep_kind End d = keep_end z b vs r id v s b' d
  keep_kind Make d = absurd d
  keep_kind Split d = absurd d
  keep_kind Join d = absurd d
  keep_kind (Aim row) d = keep_aim z b vs r id v s row b' d
  keep_kind (Sound x) d = keep_sound z b vs r id v s x b' d
  keep_kind (Close h) d = keep_close z b vs r id v s h b' d
  keep_kind Emptied d = keep_emptied z b vs r id v s b' d
  keep_kind (Pick a before) d = keep_pick z b vs r id v s a before b' d
  keep_kind (MoveHead h) d = keep_move_head z b vs r id v s h b' d
  keep_kind (MoveLink q) d = keep_move_link z b vs r id v s q b' d
  keep_kind (LeaveHead h) d = keep_leave_head z b vs r id v s h b' d
  keep_kind (LeaveLink q) d = keep_leave_link z b vs r id v s q b' d
  keep_kind (PublishRow row) d = keep_publish_row z b vs r id v s row b' d
  keep_kind (Publish h) d = keep_publish z b vs r id v s h b' d

pub keep_goes : (z : Size) (b : Board) (vs : List View) (b' : Board) (vs' : List View) → Kept z b vs → Goes z b vs b' vs' → Kept z b' vs'
keep_goes z b vs b' vs' r g = subst (Kept z b') (sym g.views) (keep_kind z b vs r g.id g.view (r.seats g.id g.view g.at g.here) b' g.kind g.does)

pub keep_move : (z : Size) (b : Board) (vs : List View) (b' : Board) (vs' : List View) → Kept z b vs → Moves z b vs b' vs' → Kept z b' vs'
keep_move z b vs b' vs' r (goes g) = keep_goes z b vs b' vs' r g
keep_move z b vs b' vs' r (makes e f) = subst (λ (x : Board × List View). Kept z x.0 x.1) (λ i. (sym e i, sym f i)) (keep_make z b vs r)
keep_move z b vs b' vs' r (joins j) = subst (λ (x : Board × List View). Kept z x.0 x.1) (λ i. (sym j.words i, sym j.views i)) (keep_join z b vs r j.id j.other j.view j.keeper j.at j.here j.apart j.there j.here_too)
keep_move z b vs b' vs' r (splits t) = subst (λ (x : Board × List View). Kept z x.0 x.1) (λ i. (sym t.words i, sym t.views i)) (keep_split z b vs r t.id t.view t.at t.here t.left t.right t.cut)

pub reached_kept : (n : ℕ) (z : Size) (b : Board) (vs : List View) → Reached n z b vs → Kept z b vs
reached_kept zero z b vs h = keep_open z b vs h
reached_kept (suc n) z b vs h = keep_move z h.0 h.1 b vs (reached_kept n z h.0 h.1 h.2) h.3

pub every : (z : Size) (n : ℕ) (b : Board) (vs : List View) → Reached n z b vs → Kept z b vs
every z n b vs h = reached_kept n z b vs h
