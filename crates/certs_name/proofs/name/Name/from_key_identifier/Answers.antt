use Rattle.std.proofs.Common.{◌≡◌, ℕ, List, ◌++◌, length, Result, Ok, Err, sym, ap, ◌∙◌, subst, rules}
use Rattle.std.specs.Prelude.{IfOk}
use Rattle.certs_name.specs.bcder_tree.declared.mode.Mode.TheVariants.{Der}
use Rattle.certs_name.specs.bcder_tree.Tree.{Spells}
use Rattle.certs_name.specs.bcder_content.Kept.{CapturedValue}
use Rattle.certs_basics.specs.Names.{hex_text, subject_of}
use Rattle.certs_name.specs.Named.{IsNamed}
use Rattle.certs_name.proofs.KeyNames.{hex_is, key_name, key_name_octets, key_name_spelled}
use Rattle.certs_name.proofs.name.Name.from_key_identifier.Goals as goal

weaker_ok : {T E : Type 0} {P Q : T → Type 0} (r : Result T E) → ((x : T) → P x → Q x) → IfOk r P → IfOk r Q
weaker_ok (Ok x) f h = f x h
weaker_ok (Err e) f h = tt

pub from_der-requires : goal.from_der-requires
from_der-requires c =
    let id = c.args.identifier.now in
    let long : length id ≡ 20 = search rules in
    let digits = c.encode_to_slice.new.output in
    let front = c.in_ok-extend_from_slice.ensures.items ∙ ap (λ (z : List ℕ). z ++ _) c.in_ok-octets.ensures.items in
    let written : digits ≡ hex_text id = c.in-Ok.ensures.written ∙ hex_is c.as_slice.result.now ∙ ap hex_text c.as_slice.ensures in
    let octets : c.extend_from_slice-2.new.self.items ≡ key_name_octets (hex_text id) = c.in_ok-extend_from_slice-2.ensures.items ∙ ap (λ (z : List ℕ). z ++ digits) front ∙ ap (λ (d : List ℕ). key_name_octets d) written in
    subst (λ (o : List ℕ). IsNamed (record { mode = Der; octets = o })) (sym octets) (key_name id long)

pub returns-clause-spelled : goal.returns-clause-spelled
returns-clause-spelled c =
    let id = c.args.identifier.now in
    let long : length id ≡ 20 = search rules in
    let digits = c.encode_to_slice.new.output in
    let front = c.in_ok-extend_from_slice.ensures.items ∙ ap (λ (z : List ℕ). z ++ _) c.in_ok-octets.ensures.items in
    let written : digits ≡ hex_text id = c.in-Ok.ensures.written ∙ hex_is c.as_slice.result.now ∙ ap hex_text c.as_slice.ensures in
    let octets : c.extend_from_slice-2.new.self.items ≡ key_name_octets (hex_text id) = c.in_ok-extend_from_slice-2.ensures.items ∙ ap (λ (z : List ℕ). z ++ digits) front ∙ ap (λ (d : List ℕ). key_name_octets d) written in
    weaker_ok c.from_der.result (λ (n : CapturedValue) e. subst (λ (o : List ℕ). Spells Der (subject_of id) o) (sym (ap (λ (v : CapturedValue). v.octets) e ∙ octets)) (key_name_spelled id long)) c.from_der.ensures
