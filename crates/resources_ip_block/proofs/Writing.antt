-- A block that is written, by its addresses.
use Rattle.std.proofs.Common.{ℕ, List, Option, Result, Ok, Err}
use Rattle.std.specs.Prelude.{IfOk, IfErr, OnOk}
use Rattle.resources_ip_block.specs.bcder_tree.declared.mode.Mode.{Mode}
use Rattle.resources_ip_block.specs.bcder_tree.Tree.{Trees}
use Rattle.resources_ip_block.specs.bcder_values.declared.choice.Choice2.{Choice2}
use Rattle.resources_ip_block.specs.bcder_primitive.declared.written.error.EncodeError.{EncodeError}
use Rattle.resources_ip_block.specs.bcder_primitive.declared.written.error.EncodeError.TheVariants as errors
use Rattle.resources_ip_block.specs.bcder_primitive.declared.written.primitive.Primitive.{Primitive}
use Rattle.resources_ip_block.specs.bcder_primitive.Writing.{HasLength, Wrote, CannotWrite, WriteRefused}
use Rattle.resources_ip_block.specs.resources_chain.Sets.{Run}
use Rattle.resources_ip_prefix.specs.declared.prefix.Prefix.{Prefix}
use Rattle.resources_ip_block.specs.Written.{BlockTrees, EncodesBlock, RangeValue}
use Rattle.resources_ip_block.specs.WrittenBlock.{AreIpBlock, WritesIpBlock, BlockText, same_block, block_text, block_trees}

text_of : (m : Mode) (run : Run) (x : Choice2 (Primitive Prefix) RangeValue) → EncodesBlock run x → (text : List ℕ) → BlockText m x text → WritesIpBlock m run text
text_of m run x e text p = record { value = x; encodes = e; writes = p }

of_text : (m : Mode) (run : Run) (x : Choice2 (Primitive Prefix) RangeValue) → EncodesBlock run x → (text : List ℕ) → WritesIpBlock m run text → BlockText m x text
of_text m run x e text w = block_text m w.value x text (same_block run w.value x w.encodes e) w.writes

of_trees : (m : Mode) (run : Run) (x : Choice2 (Primitive Prefix) RangeValue) → EncodesBlock run x → (ts : Trees) → AreIpBlock m run ts → BlockTrees m x ts
of_trees m run x e ts w = block_trees m w.value x ts (same_block run w.value x w.encodes e) w.are

pub len_of : (m : Mode) (run : Run) (x : Choice2 (Primitive Prefix) RangeValue) (r : Result ℕ EncodeError) → EncodesBlock run x → IfOk r (HasLength (BlockText m x)) → IfOk r (HasLength (WritesIpBlock m run))
len_of m run x (Ok n) e h = record { text = h.text; is = text_of m run x e h.text h.is; long = h.long }
len_of m run x (Err error) e h = h

cannot : (m : Mode) (run : Run) (x : Choice2 (Primitive Prefix) RangeValue) → EncodesBlock run x → (error : EncodeError) → CannotWrite (BlockTrees m x) (BlockText m x) error → CannotWrite (AreIpBlock m run) (WritesIpBlock m run) error
cannot m run x e errors.CerUnsupported h = λ ts w. h ts (of_trees m run x e ts w)
cannot m run x e errors.TooLong h = λ text w few. h text (of_text m run x e text w) few
cannot m run x e errors.Write h = h
cannot m run x e errors.Memory h = h

pub len_refused : (m : Mode) (run : Run) (x : Choice2 (Primitive Prefix) RangeValue) (r : Result ℕ EncodeError) → EncodesBlock run x → IfErr r (CannotWrite (BlockTrees m x) (BlockText m x)) → IfErr r (CannotWrite (AreIpBlock m run) (WritesIpBlock m run))
len_refused m run x (Ok n) e h = h
len_refused m run x (Err error) e h = cannot m run x e error h

pub wrote_of : (m : Mode) (run : Run) (x : Choice2 (Primitive Prefix) RangeValue) (r : Result (Unit {0}) EncodeError) (old new : Option (List ℕ)) → EncodesBlock run x → OnOk r (Wrote (BlockText m x) old new) → OnOk r (Wrote (WritesIpBlock m run) old new)
wrote_of m run x (Ok u) old new e h = record { text = h.text; is = text_of m run x e h.text h.is; appended = h.appended }
wrote_of m run x (Err error) old new e h = h

left : (m : Mode) (run : Run) (x : Choice2 (Primitive Prefix) RangeValue) (same : Type 0) (old new : Option (List ℕ)) → EncodesBlock run x → (error : EncodeError) → WriteRefused (BlockTrees m x) (BlockText m x) same old new error → WriteRefused (AreIpBlock m run) (WritesIpBlock m run) same old new error
left m run x same old new e errors.CerUnsupported h = (cannot m run x e errors.CerUnsupported h.0, h.1)
left m run x same old new e errors.TooLong h = (cannot m run x e errors.TooLong h.0, h.1)
left m run x same old new e errors.Write h = record { text = h.text; is = text_of m run x e h.text h.is; taken = h.taken; others = h.others; whole = h.whole; some = h.some; appended = h.appended }
left m run x same old new e errors.Memory h = h

pub write_refused : (m : Mode) (run : Run) (x : Choice2 (Primitive Prefix) RangeValue) (same : Type 0) (r : Result (Unit {0}) EncodeError) (old new : Option (List ℕ)) → EncodesBlock run x → IfErr r (WriteRefused (BlockTrees m x) (BlockText m x) same old new) → IfErr r (WriteRefused (AreIpBlock m run) (WritesIpBlock m run) same old new)
write_refused m run x same (Ok u) old new e h = h
write_refused m run x same (Err error) old new e h = left m run x same old new e error h
