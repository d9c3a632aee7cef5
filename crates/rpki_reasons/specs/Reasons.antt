-- A reason as it is printed: what is wrong with what, and what it names. Of each a word that stays,
-- for programs, and words for people.
use Rattle.std.specs.Prelude.{ℕ, Bool, true, false, List, [], ◌∷◌, ◌++◌, codes}
use Rattle.rpki_rules.specs.resources_chain.Sets.{Run}
use Rattle.rpki_rules.specs.resources.resources_as.Texts.{as_set_text}
use Rattle.rpki_rules.specs.resources.resources_ip.Texts.{ip_set_text}
use Rattle.rpki_rules.specs.resources_ip_prefix.declared.addr.AddressFamily.TheVariants as family
use Rattle.rpki_rules.specs.resources_ip_prefix.Text.{slashed}
use Rattle.rpki_rules.specs.Objects.{RoaAddress}
use Rattle.rpki_rules.specs.Kinds.{Kind, Ipv4, Ipv6, As}
use Rattle.rpki_rules.specs.Lines.{address_text, asn_text}
use Rattle.rpki_rules.specs.declared.reason.locators.AnchorTest.{AnchorTest}
use Rattle.rpki_rules.specs.declared.reason.locators.AnchorTest.TheVariants.{SameKey, AnchorCert}
use Rattle.rpki_rules.specs.declared.reason.locators.LocatorReason.{LocatorReason}
use Rattle.rpki_rules.specs.declared.reason.locators.LocatorReason.TheVariants.{BadText, NoneHeld, NoCert, BadAnchor}
use Rattle.rpki_rules.specs.PointReasons.{ManifestTest, ThisUpdate, NextUpdate, ManifestCert, ManifestContent, Folder, NamesDiffer, FileHeld, FileHash, ListNamed, ListListed, ListTest, ListAuthority, ListThisUpdate, ListNextUpdate, NotOnList, ListSignature, ManifestClaim, PointReason, NoManifest, BadManifest, ManifestFails, BadList, ListFails}
use Rattle.rpki_rules.specs.FileReasons.{CerTest, CerRevocation, CerCert, CerClaim, ObjectTest, ObjectRevocation, ObjectCert, ObjectContent, ObjectClaim, PrefixHeld, CustomerHeld, FileReason, BadCer, CerFails, Loop, Depth, BadObject, ObjectFails}
use Rattle.rpki_rules.specs.Diagnoses.{Reason, OfLocator, OfPoint, OfFile}
use Rattle.rpki_reasons.specs.Faults.{cert_fault, content_fault, either, revocation_fault, text_fault}
use Rattle.rpki_reasons.specs.Json.{json_string}

-- What is wrong with something: a word of both, or both in words.
abbrev pub said : Bool → List ℕ → List ℕ → List ℕ
said j subject fault = subject ++ (either j (codes "-") (codes ": ") ++ fault)

-- With the certificate in a manifest or in another object, and with a revocation list.
abbrev pub of_manifest : Bool → List ℕ
of_manifest j = either j (codes "manifest-certificate") (codes "certificate of the manifest")

abbrev pub of_object : Bool → List ℕ
of_object j = either j (codes "object-certificate") (codes "certificate of the object")

abbrev pub of_list : Bool → List ℕ
of_list j = either j (codes "list") (codes "revocation list")

-- Faults that stand in more than one place.
abbrev pub unreadable : Bool → List ℕ
unreadable j = either j (codes "unreadable") (codes "unreadable")

abbrev pub too_early : Bool → List ℕ
too_early j = either j (codes "this-update") (codes "this update is after the moment")

abbrev pub too_late : Bool → List ℕ
too_late j = either j (codes "next-update") (codes "next update is before the moment")

abbrev pub revoked : Bool → List ℕ
revoked j = either j (codes "revoked") (codes "revoked")

abbrev pub overclaim : Bool → List ℕ
overclaim j = either j (codes "overclaim") (codes "overclaims")

-- Of a locator, and of its anchor.
abbrev pub anchor_fault : Bool → AnchorTest → List ℕ
anchor_fault j SameKey = either j (codes "other-key") (codes "another key than the locator's")
anchor_fault j (AnchorCert t) = cert_fault j t

abbrev pub locator_text : Bool → LocatorReason → List ℕ
locator_text j (BadText e) = said j (codes "locator") (text_fault j e)
locator_text j NoneHeld =
    said j (codes "anchor") (either j (codes "missing") (codes "missing at the locator's URIs"))
locator_text j NoCert =
    said j (codes "anchor") (either j (codes "unreadable") (codes "not a certificate"))
locator_text j (BadAnchor t) = said j (codes "anchor") (anchor_fault j t)

-- Of a publication point: its manifest, and its revocation list.
abbrev pub manifest_text : Bool → ManifestTest → List ℕ
manifest_text j ThisUpdate = said j (codes "manifest") (too_early j)
manifest_text j NextUpdate = said j (codes "manifest") (too_late j)
manifest_text j (ManifestCert t) = said j (of_manifest j) (cert_fault j t)
manifest_text j (ManifestContent t) = said j (codes "manifest") (content_fault j t)
manifest_text j Folder =
    said j (codes "manifest") (either j (codes "folder") (codes "no folder of the authority"))
manifest_text j NamesDiffer =
    said j (codes "manifest") (either j (codes "name-twice") (codes "lists a name twice"))
manifest_text j (FileHeld f) =
    said j (codes "manifest") (either j (codes "file-missing") (codes "missing file"))
manifest_text j (FileHash f) =
    said j (codes "manifest") (either j (codes "file-changed") (codes "changed file"))
manifest_text j ListNamed =
    said j (of_manifest j) (either j (codes "list-unnamed") (codes "names no revocation list"))
manifest_text j ListListed =
    said j (codes "manifest")
    (either j (codes "list-unlisted") (codes "doesn't list the revocation list"))

abbrev pub list_text : Bool → ListTest → List ℕ
list_text j ListAuthority =
    said j (of_list j) (either j (codes "other-authority") (codes "of another authority"))
list_text j ListThisUpdate = said j (of_list j) (too_early j)
list_text j ListNextUpdate = said j (of_list j) (too_late j)
list_text j NotOnList = said j (of_manifest j) (revoked j)
list_text j ListSignature =
    said j (of_list j) (either j (codes "bad-signature") (codes "bad signature"))
list_text j (ManifestClaim k) = said j (of_manifest j) (overclaim j)

abbrev pub point_text : Bool → PointReason → List ℕ
point_text j NoManifest =
    said j (codes "manifest") (either j (codes "missing") (codes "missing"))
point_text j BadManifest = said j (codes "manifest") (unreadable j)
point_text j (ManifestFails t) = manifest_text j t
point_text j BadList = said j (of_list j) (unreadable j)
point_text j (ListFails t) = list_text j t

-- Of a file: an authority's certificate, or a signed object.
abbrev pub cer_fault : Bool → CerTest → List ℕ
cer_fault j (CerRevocation t) = revocation_fault j t
cer_fault j (CerCert t) = cert_fault j t
cer_fault j (CerClaim k) = overclaim j

abbrev pub object_text : Bool → ObjectTest → List ℕ
object_text j (ObjectRevocation t) = said j (of_object j) (revocation_fault j t)
object_text j (ObjectCert t) = said j (of_object j) (cert_fault j t)
object_text j (ObjectContent t) = said j (codes "object") (content_fault j t)
object_text j (ObjectClaim k) = said j (of_object j) (overclaim j)
object_text j (PrefixHeld k a) =
    said j (codes "object") (either j (codes "unheld-prefix") (codes "unheld prefix"))
object_text j (CustomerHeld n) =
    said j (codes "object") (either j (codes "unheld-customer") (codes "unheld customer"))

abbrev pub file_text : Bool → FileReason → List ℕ
file_text j BadCer = said j (codes "certificate") (unreadable j)
file_text j (CerFails t) = said j (codes "certificate") (cer_fault j t)
file_text j Loop =
    said j (codes "certificate") (either j (codes "loop") (codes "its key is on the chain already"))
file_text j Depth =
    said j (codes "certificate")
    (either j (codes "depth") (codes "the chain has as many certificates as it may"))
file_text j BadObject = said j (codes "object") (unreadable j)
file_text j (ObjectFails t) = object_text j t

abbrev pub reason_text : Bool → Reason → List ℕ
reason_text j (OfLocator r) = locator_text j r
reason_text j (OfPoint r) = point_text j r
reason_text j (OfFile r) = file_text j r

-- What a reason names: in words behind a space (32), and for programs as one more member of an
-- object, behind a comma (44) and with a colon (58).
abbrev pub named : Bool → List ℕ → List ℕ → List ℕ
named false key name = 32 ∷ name
named true key name = 44 ∷ (json_string key ++ 58 ∷ json_string name)

-- Numbers that are claimed and aren't held; a file; a prefix; a customer.
abbrev pub numbers_text : Kind → List Run → List ℕ
numbers_text Ipv4 numbers = ip_set_text family.Ipv4 numbers
numbers_text Ipv6 numbers = ip_set_text family.Ipv6 numbers
numbers_text As numbers = as_set_text numbers

abbrev pub prefix_text : Kind → RoaAddress → List ℕ
prefix_text k a = slashed (address_text k a.addr) a.len

abbrev pub names_numbers : Bool → Kind → List Run → List ℕ
names_numbers j k numbers = named j (codes "unheld") (numbers_text k numbers)

-- In what follows `numbers` are those of a claim that aren't held.
abbrev pub manifest_names : Bool → ManifestTest → List ℕ
manifest_names j ThisUpdate = []
manifest_names j NextUpdate = []
manifest_names j (ManifestCert t) = []
manifest_names j (ManifestContent t) = []
manifest_names j Folder = []
manifest_names j NamesDiffer = []
manifest_names j (FileHeld f) = named j (codes "file") f.name
manifest_names j (FileHash f) = named j (codes "file") f.name
manifest_names j ListNamed = []
manifest_names j ListListed = []

abbrev pub list_names : Bool → ListTest → List Run → List ℕ
list_names j ListAuthority numbers = []
list_names j ListThisUpdate numbers = []
list_names j ListNextUpdate numbers = []
list_names j NotOnList numbers = []
list_names j ListSignature numbers = []
list_names j (ManifestClaim k) numbers = names_numbers j k numbers

abbrev pub point_names : Bool → PointReason → List Run → List ℕ
point_names j NoManifest numbers = []
point_names j BadManifest numbers = []
point_names j (ManifestFails t) numbers = manifest_names j t
point_names j BadList numbers = []
point_names j (ListFails t) numbers = list_names j t numbers

abbrev pub cer_names : Bool → CerTest → List Run → List ℕ
cer_names j (CerRevocation t) numbers = []
cer_names j (CerCert t) numbers = []
cer_names j (CerClaim k) numbers = names_numbers j k numbers

abbrev pub object_names : Bool → ObjectTest → List Run → List ℕ
object_names j (ObjectRevocation t) numbers = []
object_names j (ObjectCert t) numbers = []
object_names j (ObjectContent t) numbers = []
object_names j (ObjectClaim k) numbers = names_numbers j k numbers
object_names j (PrefixHeld k a) numbers = named j (codes "prefix") (prefix_text k a)
object_names j (CustomerHeld n) numbers = named j (codes "customer") (asn_text n)

abbrev pub file_names : Bool → FileReason → List Run → List ℕ
file_names j BadCer numbers = []
file_names j (CerFails t) numbers = cer_names j t numbers
file_names j Loop numbers = []
file_names j Depth numbers = []
file_names j BadObject numbers = []
file_names j (ObjectFails t) numbers = object_names j t numbers

abbrev pub reason_names : Bool → Reason → List Run → List ℕ
reason_names j (OfLocator r) numbers = []
reason_names j (OfPoint r) numbers = point_names j r numbers
reason_names j (OfFile r) numbers = file_names j r numbers
