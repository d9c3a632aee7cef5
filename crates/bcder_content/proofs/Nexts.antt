-- Values in front, and values that are next.
use Rattle.std.proofs.Common.{◌≡◌, ℕ, false, List, refl}
use Rattle.bcder_content.specs.bcder_tree.Tree.{Tree}
use Rattle.bcder_content.specs.bcder_tree.Front.{Front}
use Rattle.bcder_content.specs.bcder_source.Views.{left}
use Rattle.bcder_content.specs.Contents.{ValuesLeft, octets, Ahead}
use Rattle.bcder_content.proofs.Opening.{front_moves}

-- A value in front is next, where no read was refused.
pub front_next : {v : ValuesLeft} {t : Tree} {rest : List ℕ} → v.failed ≡ false → Front v.mode (left (octets v)) t rest → Ahead v t
front_next {v} {t} {rest} sound f =
    let w = front_moves (octets v) f.text rest f.whole in (
      record { mode = v.mode; end = v.end; failed = false; rest = w.0.rest; limit = w.0.limit },
      record {
        text = f.text;
        spelled = f.spelled;
        goes = record { moved = record { rest = w.1.rest; limit = w.1.limit }; mode = refl; end = refl; before = sound; behind = refl };
      },
    )
