-- What is written of an algorithm is read again.
use Rattle.std.proofs.Common.{ℕ, Bool, true, false, List, inl}
use Rattle.certs_key.specs.bcder_tree.declared.mode.Mode.{Mode}
use Rattle.certs_key.specs.bcder_content.Grammar.{End, Then}
use Rattle.certs_key.specs.bcder_values.Forms.{written_again}
use Rattle.certs_key.specs.bcder_primitive.Encoded.{SpellsSome}
use Rattle.certs_key.specs.certs_basics.Identifiers.{rsa_encryption}
use Rattle.certs_key.specs.Algorithms.{AreDigestAlgorithms, IsAlgorithmOf, IsCmsAlgorithm, IsDigestAlgorithm, algorithm_of, digest_algorithm, digest_algorithms, sha256}

-- NULL stands after an identifier, and nothing after NULL.
pub algorithm_sound : (kind : List ℕ) → (algorithm_of kind).sound
algorithm_sound kind = (tt, (record { is = λ t e. e; behind = λ e. e }, tt))

pub algorithm_spelled : (kind : List ℕ) (a : Bool) (m : Mode) (text : List ℕ) → (algorithm_of kind).writes a m text
    → SpellsSome m (λ ts. Then (IsAlgorithmOf kind) End ts (a, tt)) text
algorithm_spelled kind true m text w = written_again (algorithm_of kind) (algorithm_sound kind) true m text (tt, tt) w
algorithm_spelled kind false m text w = written_again (algorithm_of kind) (algorithm_sound kind) false m text (tt, tt) w

pub cms_spelled : (m : Mode) (text : List ℕ) → (algorithm_of rsa_encryption).writes true m text
    → SpellsSome m (λ ts. Then IsCmsAlgorithm End ts (true, tt)) text
cms_spelled m text w =
    let s = algorithm_spelled rsa_encryption true m text w in
    record {
      trees = s.trees;
      is = record { first = s.is.first; others = s.is.others; whole = s.is.whole; is = record { cases = inl s.is.is }; rest = s.is.rest };
      spelled = s.spelled;
    }

pub digest_spelled : (m : Mode) (text : List ℕ) → digest_algorithm.writes tt m text → SpellsSome m (λ ts. Then IsDigestAlgorithm End ts (tt, tt)) text
digest_spelled m text w = written_again digest_algorithm (algorithm_sound sha256) tt m text (tt, tt) w

pub digests_spelled : (m : Mode) (text : List ℕ) → digest_algorithms.writes (tt, tt) m text
    → SpellsSome m (λ ts. Then AreDigestAlgorithms End ts ((tt, tt), tt)) text
digests_spelled m text w = written_again digest_algorithms (algorithm_sound sha256) (tt, tt) m text (tt, tt) w
