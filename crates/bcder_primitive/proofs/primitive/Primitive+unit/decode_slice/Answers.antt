use Rattle.std.proofs.Common.{◌≡◌, ℕ, List, length, true, false, Some, refl, ap}
use Rattle.bcder_source.specs.Views.{Reading}
use Rattle.bcder_primitive.specs.Plain.{OctetsLeft}
use Rattle.bcder_primitive.specs.Sliced.{refused, goes_on}
use Rattle.bcder_primitive.proofs.primitive.Primitive+unit.decode_slice.Goals as goal

pub returns-in-Err : goal.returns-in-Err
returns-in-Err g c =
    let e : c.new-source.result.rest ≡ c.args.octets.now = ap (λ (s : Reading). s.rest) c.new-source.ensures in
    record {
      ran = record {
        cases = refused _ (record {
          begun = _;
          left = c.op.new.arg2;
          begins = ap (λ (z : List ℕ). let p : OctetsLeft = record { mode = c.args.mode; failed = false; rest = z; limit = Some (length c.args.octets.now) } in p) e;
          met = record { shown = _; shows = refl; left = _; met = c.in-Err.ensures; leaves = refl };
          ends = refl;
        });
      };
    }

pub returns-then-not-is_drained : goal.returns-then-not-is_drained
returns-then-not-is_drained g c =
    let e : c.new-source.result.rest ≡ c.args.octets.now = ap (λ (s : Reading). s.rest) c.new-source.ensures in
    record {
      ran = record {
        cases = goes_on _ c.in-Ok.value (record {
          begun = _;
          left = c.op.new.arg2;
          begins = ap (λ (z : List ℕ). let p : OctetsLeft = record { mode = c.args.mode; failed = false; rest = z; limit = Some (length c.args.octets.now) } in p) e;
          met = record { shown = _; shows = refl; left = _; met = c.in-Ok.ensures; leaves = refl };
          ends = refl;
        }) (λ d. let h : c.is_drained.result ≡ true = c.is_drained.ensures.1 d in let k : c.is_drained.result ≡ false = c.if-not-is_drained.true in cc) c.refuse.ensures.error;
      };
    }

pub returns : goal.returns
returns g c =
    let e : c.new-source.result.rest ≡ c.args.octets.now = ap (λ (s : Reading). s.rest) c.new-source.ensures in
    record {
      ran = record {
        cases = (
          _,
          record {
            begun = _;
            left = c.op.new.arg2;
            begins = ap (λ (z : List ℕ). let p : OctetsLeft = record { mode = c.args.mode; failed = false; rest = z; limit = Some (length c.args.octets.now) } in p) e;
            met = record { shown = _; shows = refl; left = _; met = c.in-Ok.ensures; leaves = refl };
            ends = refl;
          },
          c.is_drained.ensures.0 c.if-not-is_drained.false,
        );
      };
    }
