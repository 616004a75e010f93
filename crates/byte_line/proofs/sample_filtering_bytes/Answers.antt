use Rattle.std.proofs.Common.{eq-eqb, ne_eqb, ◌≡◌, refl, ◌∙◌, rules}
use Rattle.base.specs.Width.{Byte}
use Rattle.line.specs.LineWidths.{lent_depth, lent_short, lent_line_lem, byte_size, byte_filtered}
use Rattle.byte_line.proofs.sample_filtering_bytes.Goals as goal

pub returns-then-depth-ne8 : goal.returns-then-depth-ne8
returns-then-depth-ne8 c =
    let a = c.args in
    rw (lent_depth Byte a.depth a.size a.limit a.blimit a.thresh a.t.now (ne_eqb _ 8 c.if-depth-ne8.true)) (refl, refl)

pub returns-then-t-lt16 : goal.returns-then-t-lt16
returns-then-t-lt16 c =
    let a = c.args in
    rw (lent_short Byte a.depth a.size a.limit a.blimit a.thresh a.t.now (eq-eqb a.depth 8 c.if-depth-ne8.false) c.if-t-lt16.true) (refl, refl)

pub returns-then-size-gt2 : goal.returns-then-size-gt2
returns-then-size-gt2 c =
    let a = c.args in
    rw (lent_line_lem Byte a.depth a.size a.limit a.blimit a.thresh a.t.now (eq-eqb a.depth 8 c.if-depth-ne8.false) c.if-t-lt16.false ∙ byte_size a.depth a.size a.limit a.blimit a.thresh a.t.now (eq-eqb a.depth 8 c.if-depth-ne8.false) (record { below = λ k. search rules }) c.if-size-gt2.true)
    (refl, refl)

pub returns : goal.returns
returns c =
    let a = c.args in
    let is : a.depth ≡ 8 = c.if-depth-ne8.false in
    rw (lent_line_lem Byte a.depth a.size a.limit a.blimit a.thresh a.t.now (eq-eqb a.depth 8 c.if-depth-ne8.false) c.if-t-lt16.false ∙ byte_filtered a.depth a.size a.limit a.blimit a.thresh a.t.now (eq-eqb a.depth 8 c.if-depth-ne8.false) (record { below = λ k. search rules }) c.if-size-gt2.false, is)
    (refl, c.sample_filtering_bytes_unchecked.ensures)
