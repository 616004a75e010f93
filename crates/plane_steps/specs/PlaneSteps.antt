-- One position's step on a window and on the standard's plane: where no tap that the filter size reads is clamped, they do the same
-- to every sample of the window (`step_standard`).
-- Assumes nothing.
use Rattle.std.specs.Prelude.{◌≡◌, true, ◌&&◌, List, ℕ, ◌+◌, ◌-◌, ◌≤◌, ◌<◌, length, get_or}
use Rattle.std.proofs.Common.{sym, ap, ◌∙◌, zero-add, arith}
use Rattle.geometry.specs.FrameStandard.{pass_number}
use Rattle.geometry.specs.declared.Pass.{Pass}
use Rattle.line.specs.LineStandard.{beyond_kept}
use Rattle.line.proofs.LineStandard.{sample_filtering_standard}
use Rattle.line.specs.SampleFiltering.{sample_filtering}
use Rattle.line.specs.SampleFilteringLaws.{reads, reads_few, filters_same}
use Rattle.section_8_8.specs.LoopFilterProcess as Std
use Rattle.wide_filter.specs.Taps.{tap, Agree}
use Rattle.wide_filter.specs.WideFilterStandard.{taps_of}
use Rattle.window.specs.Stencil.{Stencil, taps, applied}
use Rattle.window.specs.StencilLaws.{gather_at, gather-length, applied_at, applied_other}
use Rattle.window.specs.Window.{place, clamp, tap_x, tap_y, tap_read, tap_stored, tap_written, stencil}
use Rattle.window.specs.WindowLaws.{Lent, Inside, Tap, place_lent, place_unique, among_yes, tap_in, tap_inside}
use Rattle.window.specs.declared.WindowShape.{WindowShape}
use Rattle.plane_steps.specs.PlaneLines.{IsTap, Which, one, none, which, same_tap, stored_near, stored_far, line_near}

-- the window's samples are those of a plane
pub record Shows (g : WindowShape) (samples : List ℕ) (s : Std.Plane) : Type 0 where
  pub at : (x y : ℕ) → Inside g x y → get_or samples (place g x y) 0 ≡ s x y

-- r taps on each side of the edge are in the window, so that no read of them is clamped
pub record Unclamped (g : WindowShape) (pass : Pass) (x y r : ℕ) : Type 0 where
  pub inside : (k : ℕ) → 8 ≤ k + r → k < 8 + r → Tap g (tap_x pass x k) (tap_y pass y k)

-- ---- a tap in the window

module _ (g : WindowShape) (pass : Pass) (x y k u v : ℕ) (i : Inside g u v) (t : IsTap pass x y k u v) where
  read_at : tap_read g pass x y k ≡ place g u v
  read_at =
      let column : clamp 0 g.width (tap_x pass x k - 8) ≡ u = omega arith in
      let row : clamp g.top g.height (tap_y pass y k - 8) ≡ v = omega arith in
      λ n. place g (column n) (row n)

  written_at : tap_written g pass x y k ≡ place g u v
  written_at =
      let column : tap_x pass x k - 8 ≡ u = omega arith in
      let row : tap_y pass y k - 8 ≡ v = omega arith in
      λ n. place g (column n) (row n)

  is_stored : tap_stored g pass x y k ≡ true
  is_stored =
      let columns = among_yes 8 g.width (tap_x pass x k) (omega arith) (omega arith) in
      let rows = among_yes (8 + g.top) g.height (tap_y pass y k) (omega arith) (omega arith) in
      λ n. columns n && rows n

-- only the tap at a place of the window is stored to it
stored_is : (g : WindowShape) → g.width ≤ g.stride → (pass : Pass) (x y k u v : ℕ) → Inside g u v → tap_stored g pass x y k ≡ true → place g u v ≡ tap_written g pass x y k → IsTap pass x y k u v
stored_is g f pass x y k u v i d e =
    let t = tap_in g (tap_x pass x k) (tap_y pass y k) d in
    let s = place_unique g f u v (tap_x pass x k - 8) (tap_y pass y k - 8) i (tap_inside g (tap_x pass x k) (tap_y pass y k) t) e in
    record { column = omega arith; row = omega arith }

-- the taps of the window's line that are in the window are those of the plane's
module _ (g : WindowShape) (pass : Pass) (x y : ℕ) (line : List ℕ → List ℕ) (samples : List ℕ) (s : Std.Plane) (shown : Shows g samples s) where
  tap_shown : (k u v : ℕ) → k < 16 → Inside g u v → IsTap pass x y k u v
      → tap (taps (stencil g pass x y true line) samples) k ≡ tap (taps_of (Std.line_at (pass_number pass) x y s)) k
  tap_shown k u v h i t =
      gather_at (tap_read g pass x y) 0 16 samples k h
      ∙ rw (zero-add k, read_at g pass x y k u v i t) (shown.at u v i)
      ∙ sym (line_near pass x y k u v h t s)

  taps_shown : (r : ℕ) → r ≤ 8 → Unclamped g pass x y r → Agree r (taps (stencil g pass x y true line) samples) (taps_of (Std.line_at (pass_number pass) x y s))
  taps_shown r small clear = record {
    same = λ k low high.
        let t = clear.inside k low high in
        tap_shown k (tap_x pass x k - 8) (tap_y pass y k - 8) (omega arith) (tap_inside g (tap_x pass x k) (tap_y pass y k) t) (record { column = omega arith; row = omega arith });
  }

-- ---- the step

pub step_standard : (g : WindowShape) (pass : Pass) (x y B size limit blimit thresh : ℕ) (samples : List ℕ) (s : Std.Plane)
    → Lent g (length samples) → Shows g samples s → Unclamped g pass x y (reads size)
    → Shows g (applied (stencil g pass x y true (sample_filtering B size limit blimit thresh)) samples)
    (Std.stored (pass_number pass) x y (Std.sample_filtering B size limit blimit thresh (Std.line_at (pass_number pass) x y s)) s)
step_standard g pass x y B size limit blimit thresh samples s lent shown clear = record { at = λ u v i. cases u v i (which pass x y u v) }
  where
    here : Stencil
    here = stencil g pass x y true (sample_filtering B size limit blimit thresh)

    l : Std.Line
    l = Std.line_at (pass_number pass) x y s

    after : Std.Line
    after = Std.sample_filtering B size limit blimit thresh l

    cases : (u v : ℕ) → Inside g u v → Which pass x y u v → get_or (applied here samples) (place g u v) 0 ≡ Std.stored (pass_number pass) x y after s u v
    cases u v i (none h) =
        applied_other here samples (place g u v) 0 (λ k n d e. h k n (stored_is g lent.rows pass x y k u v i d e))
        ∙ shown.at u v i
        ∙ sym (stored_far pass x y u v h after s (record { p = λ k n. (beyond_kept B size limit blimit thresh l k n).0; q = λ k n. (beyond_kept B size limit blimit thresh l k n).1 }))
    cases u v i (one k h t) =
        let w = written_at g pass x y k u v i t in
        let room : tap_written g pass x y k < length samples = rw w (place_lent g (length samples) u v lent i) in
        let agree = taps_shown g pass x y here.line samples s shown (reads size) (reads_few size) clear in
        let same = tap_shown g pass x y here.line samples s shown k u v h i t in
        ap (λ (j : ℕ). get_or (applied here samples) j 0) (sym w)
        ∙ applied_at here samples k 0 h (is_stored g pass x y k u v i t) room (λ j n d e. same_tap pass x y k j u v t (stored_is g lent.rows pass x y j u v i d (sym w ∙ e)))
        ∙ filters_same B size limit blimit thresh (taps here samples) (taps_of l) (gather-length here.reads 0 16 samples) agree k same
        ∙ ap (λ (r : List ℕ). tap r k) (sample_filtering_standard B size limit blimit thresh l)
        ∙ sym (stored_near pass x y k u v h t after s)
