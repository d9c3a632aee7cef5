-- What is written in octets of URIs, as its lookup key is.
use Rattle.std.proofs.Common.{◌==◌, inl, inr, ℕ, Bool, true, false, List, [], ◌∷◌, ◌++◌, map, take, drop, All, if◌then◌else◌, subst, arith, take-append-drop}
use Rattle.std.proofs.lemmas.Bool.Decides.{nat_tests}
use Rattle.std.proofs.lemmas.List.Elements.{All-append, All-cons, All-head, All-nil, All-tail}
use Rattle.rpki_standing.specs.certs_basics.Paths.{ends_with_slash, join}
use Rattle.rpki_standing.specs.certs_basics.Uris.{IsUri, IsUriOctet, lookup_key, lower, lower_host}

-- Both parts of a text are.
front_of : (xs ys : List ℕ) → All IsUriOctet (xs ++ ys) → All IsUriOctet xs
front_of [] ys a = All-nil IsUriOctet
front_of (x ∷ xs) ys a = All-cons IsUriOctet x xs (All-head IsUriOctet x (xs ++ ys) a) (front_of xs ys (All-tail IsUriOctet x (xs ++ ys) a))

behind_of : (xs ys : List ℕ) → All IsUriOctet (xs ++ ys) → All IsUriOctet ys
behind_of [] ys a = a
behind_of (x ∷ xs) ys a = behind_of xs ys (All-tail IsUriOctet x (xs ++ ys) a)

-- An octet is one of a URI where it is in lower case.
octet_is : (c : ℕ) → IsUriOctet (lower c) → IsUriOctet c
octet_is c h = (grind (arith, nat_tests), grind (arith, nat_tests))

all_are : (text : List ℕ) → All IsUriOctet (map lower text) → All IsUriOctet text
all_are [] a = All-nil IsUriOctet
all_are (c ∷ text) a = All-cons IsUriOctet c text (octet_is c (All-head IsUriOctet (lower c) (map lower text) a)) (all_are text (All-tail IsUriOctet (lower c) (map lower text) a))

host_case : (slash : Bool) (c : ℕ) (text host : List ℕ) → (All IsUriOctet host → All IsUriOctet text) → All IsUriOctet (if slash then c ∷ text else (lower c ∷ host)) → All IsUriOctet (c ∷ text)
host_case true c text host h a = a
host_case false c text host h a = All-cons IsUriOctet c text (octet_is c (All-head IsUriOctet (lower c) host a)) (h (All-tail IsUriOctet (lower c) host a))

host_is : (text : List ℕ) → All IsUriOctet (lower_host text) → All IsUriOctet text
host_is [] a = a
host_is (c ∷ text) a = host_case (c == 47) c text (lower_host text) (host_is text) a

text_is : (text : List ℕ) → All IsUriOctet (lookup_key text) → All IsUriOctet text
text_is text a =
    let front = all_are (take 8 text) (front_of (map lower (take 8 text)) (lower_host (drop 8 text)) a) in
    let behind = host_is (drop 8 text) (behind_of (map lower (take 8 text)) (lower_host (drop 8 text)) a) in
    subst (All IsUriOctet) (take-append-drop 8 text) (All-append IsUriOctet (take 8 text) (drop 8 text) front behind)

uri_is : (text : List ℕ) → IsUri text → All IsUriOctet text
uri_is text (inl r) = r.plain
uri_is text (inr h) = h.plain

-- So is a name that is joined to a folder, where that makes a URI.
pub name_is : (folder name : List ℕ) → IsUri (lookup_key (join folder name)) → All IsUriOctet name
name_is folder name u =
    behind_of (if ends_with_slash folder then folder else folder ++ 47 ∷ []) name (text_is (join folder name) (uri_is (lookup_key (join folder name)) u))
