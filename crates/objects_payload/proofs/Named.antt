-- What a reader's whole text is read as.
use Rattle.std.proofs.Common.{◌≡◌, ℕ, List, Option, Result, Ok, Err, String, arith, subst}
use Rattle.std.specs.declared.alloc.Global.{Global}
use Rattle.objects_payload.specs.declared.locator.error.ReadError.{ReadError}
use Rattle.objects_payload.specs.declared.locator.error.ReadError.TheVariants.{Io, UnexpectedEof, BadUri, BadKeyInfoEncoding, BadKeyInfo, Memory}
use Rattle.objects_payload.specs.Counts.{Counts}
use Rattle.objects_payload.specs.Tals.{FailsAtIo, GivesSome, ReadsNamed, ReadsTal, TakesText, TalValue, Tells}

gives : (before after : Option (List ℕ)) (text : List ℕ) → Tells before after text → GivesSome before after
gives before after text t = record { octets = text; consumed = t.consumed; few = let k = t.few in omega (arith, k) }

pub text_fault : (name : String Global) (before after : Option (List ℕ)) (e : ReadError) → TakesText before after (Err e) → ReadsNamed name before after (Err e)
text_fault name before after Io f = f
text_fault name before after UnexpectedEof f = absurd f
text_fault name before after BadUri f = absurd f
text_fault name before after BadKeyInfoEncoding f = absurd f
text_fault name before after BadKeyInfo f = absurd f
text_fault name before after Memory f = f

pub named_is : (name : String Global) (before after : Option (List ℕ)) (text seen : List ℕ) (r : Result TalValue ReadError) → seen ≡ text → Tells before after text → ReadsTal name seen r → ReadsNamed name before after r
named_is name before after text seen r same t reads = at r (subst (λ (z : List ℕ). ReadsTal name z r) same reads)
  where
    at : (r : Result TalValue ReadError) → ReadsTal name text r → ReadsNamed name before after r
    at (Ok tal) reads = record { text = text; tells = t; reads = reads }
    at (Err Io) reads = absurd reads
    at (Err UnexpectedEof) reads = record { text = text; tells = t; reads = reads }
    at (Err BadUri) reads = record { text = text; tells = t; reads = reads }
    at (Err BadKeyInfoEncoding) reads = record { text = text; tells = t; reads = reads }
    at (Err BadKeyInfo) reads = record { text = text; tells = t; reads = reads }
    at (Err Memory) reads = gives before after text t

-- A text that was read is no failure of its reader.
pub none_failed_of : (name : String Global) (before after : Option (List ℕ)) (failures : Counts) (text : List ℕ) (r : Result TalValue ReadError) → failures.after ≡ failures.before → ReadsTal name text r → FailsAtIo before after failures r
none_failed_of name before after failures text (Ok tal) same reads = same
none_failed_of name before after failures text (Err Io) same reads = absurd reads
none_failed_of name before after failures text (Err UnexpectedEof) same reads = same
none_failed_of name before after failures text (Err BadUri) same reads = same
none_failed_of name before after failures text (Err BadKeyInfoEncoding) same reads = same
none_failed_of name before after failures text (Err BadKeyInfo) same reads = same
none_failed_of name before after failures text (Err Memory) same reads = same

-- Why a reader's text wasn't had is told as it is.
pub stopped_of : (A B : Type 0) (before after : Option (List ℕ)) (failures : Counts) (e : ReadError) → FailsAtIo {A = A} before after failures (Err e) → FailsAtIo {A = B} before after failures (Err e)
stopped_of A B before after failures Io f = f
stopped_of A B before after failures UnexpectedEof f = f
stopped_of A B before after failures BadUri f = f
stopped_of A B before after failures BadKeyInfoEncoding f = f
stopped_of A B before after failures BadKeyInfo f = f
stopped_of A B before after failures Memory f = f
