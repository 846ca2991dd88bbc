-- Laws of the lines of a save: frame by frame, and the whole text of a sound one.
use Prim.Native.Nat.{ℕ, suc, ◌+◌, ◌≤◌}
use mathlib.Core.Path.{◌≡◌, refl, sym, ap, ◌∙◌}
use mathlib.Core.List.{List, [], ◌∷◌, ◌++◌, append_assoc}
use native.Mathlib.Omega.{arith}
use lib.ListN.{length, drop}
use Rattle.octets.specs.Outcome.{Outcome, accepted, refused, on_accepted, and_then}
use Rattle.octets.specs.Over.{into, settle}
use Rattle.octets.proofs.Choosing.{refused-accepted}
use Rattle.octets.proofs.Outcomes.{then-both, same-value}
use Rattle.processor.specs.Memory.{Store}
use Rattle.streams.specs.declared.shape.Shape.{Shape}
use Rattle.streams.specs.Stream.{content_of, behind, tag_of, stream_of}
use Rattle.streams.specs.Means.{frame_means, all_mean}
use Rattle.streams.specs.Judge.{Save, judged_of}
use Rattle.streams.specs.Inside.{frame_writes, frames_write}
use Rattle.listed.specs.Listing.{write_lines, text_of}
use Rattle.listed.specs.Inside.{lines_of, frames_text}
use Rattle.listed.proofs.Fits.{text-fits}
use Rattle.streams.proofs.Streams.{stream-frame, stream_end}
use Rattle.streams.proofs.Sound.{own, own-writes}

lines-append : (v w : List Store) → write_lines (v ++ w) ≡ write_lines v ++ write_lines w
lines-append [] w = refl
lines-append (a ∷ v) w = rw (lines-append v w, append_assoc)

module _ (e s : ℕ) (l : List ℕ) where
  -- the line of a frame that comes first
  abbrev pub first_line : List ℕ
  first_line = write_lines (frame_writes e s (content_of l))

  pub lines-frame : tag_of l ≡ 0x10 → lines_of e s l ≡ first_line ++ lines_of e s (behind l)
  unfolding lines_of
  lines-frame h = rw (stream-frame l h) (lines-append (frame_writes e s (content_of l)) (frames_write e s (stream_of (behind l)).frames))

  pub lines_none : (tag_of l ≡ 0x10 → ⊥) → lines_of e s l ≡ []
  unfolding lines_of
  lines_none h = rw (stream_end l h)

pub count-frame : (l : List ℕ) → tag_of l ≡ 0x10 → length (stream_of l).frames ≡ length (stream_of (behind l)).frames + 1
count-frame l h = rw (stream-frame l h) (omega arith)

pub count_none : (l : List ℕ) → (tag_of l ≡ 0x10 → ⊥) → length (stream_of l).frames ≡ 0
count_none l h = rw (stream_end l h)

-- ---- a sound save
module _ (e s : ℕ) where
  -- each frame means one write
  means-count : (fs : List (List ℕ)) {ws : List Store} → all_mean e s fs ≡ accepted ws → length fs ≡ length ws
  means-count [] h = ap length (same-value h)
  means-count (f ∷ fs) h =
      let t = then-both (frame_means e s f) (λ w. and_then (all_mean e s fs) (λ ws. accepted (w ∷ ws))) h in
      let u = then-both (all_mean e s fs) (λ ws. accepted (t.value ∷ ws)) t.second in
      ap suc (means-count fs u.first) ∙ ap length (same-value u.second)

module _ (l : List ℕ) where
  -- the text of its frames is its text
  own-text : {save : Save} → judged_of l ≡ accepted save → frames_text save.shape (drop 11 l) ≡ text_of save
  own-text {save} h = rw (means-count _ _ _ (own l h).means, own-writes l h)

  -- it has room on a page
  pub sound-fits : {shape : Shape} → length l ≤ 32768 → accepted shape ≡ on_accepted (λ (save : Save). save.shape) (judged_of l) → length (frames_text shape (drop 11 l)) ≤ 65536
  sound-fits {shape} n h = go (judged_of l) refl h
    where
      go : (o : Outcome Save) → judged_of l ≡ o → accepted shape ≡ on_accepted (λ (save : Save). save.shape) o → length (frames_text shape (drop 11 l)) ≤ 65536
      go (accepted save) q g = rw (same-value g, own-text q) (text-fits l save n q)
      go (refused k) q g = absurd (refused-accepted (sym g))

  module _ (out : List ℕ) {r : Outcome ℕ × List ℕ} where
    pub lists : {shape : Shape} → accepted shape ≡ on_accepted (λ (save : Save). save.shape) (judged_of l) → r ≡ into (frames_text shape (drop 11 l)) out → r ≡ settle (on_accepted text_of (judged_of l)) (λ text. text) out
    lists {shape} h e = go (judged_of l) refl h
      where
        go : (o : Outcome Save) → judged_of l ≡ o → accepted shape ≡ on_accepted (λ (save : Save). save.shape) o → r ≡ settle (on_accepted text_of o) (λ text. text) out
        go (accepted save) q g = rw (← own-text q, ← same-value g) e
        go (refused k) q g = absurd (refused-accepted (sym g))

    pub refuses : {k : ℕ} → refused k ≡ on_accepted (λ (save : Save). save.shape) (judged_of l) → r ≡ (refused k, out) → r ≡ settle (on_accepted text_of (judged_of l)) (λ text. text) out
    refuses {k} h e = go (judged_of l) h
      where
        go : (o : Outcome Save) → refused k ≡ on_accepted (λ (save : Save). save.shape) o → r ≡ settle (on_accepted text_of o) (λ text. text) out
        go (accepted save) g = absurd (refused-accepted g)
        go (refused j) g = let n : k ≡ j = cc in e ∙ ap (λ (m : ℕ). (refused m, out)) n
