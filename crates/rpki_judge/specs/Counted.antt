-- How many publication points are read of one witness, from its object's up to the first refusal.
use Rattle.std.specs.Prelude.{◌≡◌, ℕ, ◌+◌, ◌*◌, ◌<◌, ◌⊎◌, List, [], ◌∷◌, ◌++◌, length}
use Rattle.rpki_rules.specs.Certs.{Cert}
use Rattle.rpki_rules.specs.Objects.{Object}
use Rattle.rpki_rules.specs.Words.{Each, NoRepeat}
use Rattle.rpki_rules.specs.Kinds.{Kind}
use Rattle.rpki_rules.specs.World.{World}
use Rattle.rpki_rules.specs.Points.{Link, Point, IsPoint}
use Rattle.rpki_rules.specs.Chains.{last_of, places, keys, CertAt}
use Rattle.rpki_rules.specs.Attests.{Payload, WitnessValue, IsSigned}
use Rattle.rpki_rules.specs.Judge.{KeepsNeed, NeedAt, Needs}
use Rattle.rpki_judge.specs.Evidence.{IsBelow}

-- The authority has no point, the claim of the manifest's certificate apart.
abbrev pub HasNoPoint : World → Cert → Type 0
HasNoPoint w ca = (p : Point) → ¬ (IsPoint w ca p)

-- No object at the file of the point is sound there and has a certificate that keeps what it needs.
abbrev pub NoneIsKept : World → Cert → Point → List ℕ → Type 0
NoneIsKept w ca p uri =
    (o : Object) (x : Payload) → IsSigned w ca p uri o x → ¬ (KeepsNeed o.cert (Needs x))

-- With that need of the last certificate, so many points are read above its own: none where it doesn't keep the need, or
-- where the authority above has no point; that point alone where the certificate isn't sound there; else that point, and
-- those above it with what is needed there.
abbrev pub ReadsAbove : World → Link → List Link → (Kind → ℕ → Type 0) → ℕ → Type 0
ReadsAbove w a [] need count = count ≡ 0
ReadsAbove w a (c ∷ cs) need count =
    ((count ≡ 0) × (KeepsNeed c.cert need → HasNoPoint w (last_of a cs).cert))
    ⊎ (KeepsNeed c.cert need × (p : Point) × IsPoint w (last_of a cs).cert p
    × (((count ≡ 1) × ¬ (IsBelow w (last_of a cs).cert p c.uri c.cert))
    ⊎ (IsBelow w (last_of a cs).cert p c.uri c.cert
    × (above : ℕ) × (count ≡ above + 1) × ReadsAbove w a cs (NeedAt c.cert p need) above)))

-- For the object at that lookup key so many points are read: none where the chain's last certificate has no point; that
-- point alone where no object there is sound and keeps what it needs; else that point, and those above it.
abbrev pub ReadsFrom : World → Link → List Link → List ℕ → ℕ → Type 0
ReadsFrom w a cs uri count =
    ((count ≡ 0) × HasNoPoint w (last_of a cs).cert)
    ⊎ ((p : Point) × IsPoint w (last_of a cs).cert p
    × (((count ≡ 1) × NoneIsKept w (last_of a cs).cert p uri)
    ⊎ ((o : Object) × (x : Payload) × IsSigned w (last_of a cs).cert p uri o x
    × KeepsNeed o.cert (Needs x)
    × (above : ℕ) × (count ≡ above + 1) × ReadsAbove w a cs (NeedAt o.cert p (Needs x)) above)))

-- The certificates that stand at a chain's lookup keys: no key of theirs occurs twice, and they are no more than may be.
pub record HasChain (w : World) (chain : List (List ℕ)) (a : Link) (cs : List Link) : Type 0 where
  pub places_are : chain ≡ places a cs
  pub at : Each (λ l. CertAt w l.uri l.cert) (cs ++ a ∷ [])
  pub once : NoRepeat (keys a cs)
  pub short : length cs < w.depth

-- Of a witness so many points are read: none where its chain has no such certificates.
abbrev pub ReadsPoints : World → WitnessValue → ℕ → Type 0
ReadsPoints w t count =
    ((count ≡ 0) × ((a : Link) (cs : List Link) → ¬ (HasChain w t.chain a cs)))
    ⊎ ((a : Link) × (cs : List Link) × HasChain w t.chain a cs × ReadsFrom w a cs t.object count)

-- How often the verifier may be asked where so many points are read: four times a point, three times for one more that
-- doesn't stand, and once for the object.
abbrev pub may_ask_reading : ℕ → ℕ
may_ask_reading points = 4 * points + 4

-- Of a witness so many points are read, and no other number.
abbrev pub OneCount : Type 0
OneCount = (w : World) (t : WitnessValue) (m n : ℕ) → ReadsPoints w t m → ReadsPoints w t n → m ≡ n
