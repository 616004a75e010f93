use Rattle.std.proofs.Common.{sym, ap, ◌∙◌, refl}
use Rattle.base.specs.Outcome.{accepted}
use Rattle.base.specs.Width.{Byte}
use Rattle.pass.specs.PassRange.{accepted_ready}
use Rattle.c_byte_pass.proofs.unchecked.springspade_pass_bytes_unchecked.Goals as goal

pub setting_of_unchecked-requires : goal.setting_of_unchecked-requires
setting_of_unchecked-requires c =
    let a = c.args in
    let r = accepted_ready Byte _ a.sharpness 8 a.sub_x a.sub_y a.mi_cols a.mi_rows a.mi_row a.mi_col a.plane a.pass a.cells.now a.samples.now _ c.requires in
    record { sharpness = r.sharpness; depth = r.depth; placed = r.placed }

pub superblock_loop_filter_unchecked-requires : goal.superblock_loop_filter_unchecked-requires
superblock_loop_filter_unchecked-requires c =
    let a = c.args in
    let r = accepted_ready Byte _ a.sharpness 8 a.sub_x a.sub_y a.mi_cols a.mi_rows a.mi_row a.mi_col a.plane a.pass a.cells.now a.samples.now _ c.requires in
    let e = c.setting_of_unchecked.ensures in
    rw (e.s, e.chroma, e.sharpness, e.depth) (r, refl)

pub returns : goal.returns
returns c =
    let e = c.setting_of_unchecked.ensures in
    ap accepted (rw (e.s, e.pass, e.chroma, e.sharpness, e.depth) at c.superblock_loop_filter_unchecked.ensures) ∙ sym c.requires
