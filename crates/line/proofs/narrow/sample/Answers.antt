use Rattle.std.proofs.Common.{◌-◌, ◌*◌, ◌^◌, arith, to_z-of_z}
use Rattle.base.specs.Depth.{depth_scaled}
use Rattle.base.specs.Machine.{plus_read}
use Rattle.line.specs.NarrowFilter.{c, sample}
use Rattle.line.specs.NarrowFilterLaws.{c_small, raised_sign, raised_small}
use Rattle.line.proofs.narrow.sample.Goals as goal

pub overflow_cast-result : goal.overflow_cast-result
overflow_cast-result x =
    let a = x in
    let s = depth_scaled a.args.depth.bits a.args.depth.known in
    let small = c_small a.args.depth.bits a.args.depth.known a.args.v in
    rw (
      plus_read x.clip.result x.offset.result (record { far = omega arith }) (record { far = omega arith }),
      x.clip.ensures.0,
      x.offset.ensures.0,
      to_z-of_z a.ranges.v,
    ) (
      raised_sign (c a.args.depth.bits a.args.v) (128 * 2 ^ (a.args.depth.bits - 8)) small,
      record { fits = omega (arith, raised_small (c a.args.depth.bits a.args.v) (128 * 2 ^ (a.args.depth.bits - 8)) small) },
    )

pub returns : goal.returns
unfolding sample
returns x =
    rw (
      plus_read x.clip.result x.offset.result (record { far = omega arith }) (record { far = omega arith }),
      x.clip.ensures.0,
      x.offset.ensures.0,
      to_z-of_z x.ranges.v,
    )
