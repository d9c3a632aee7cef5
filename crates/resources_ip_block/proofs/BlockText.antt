-- What a block prints: as a prefix where it is one.
use Rattle.std.proofs.Common.{◌≡◌, ℕ, ◌+◌, ◌-◌, ◌≤◌, List, ap, sym, ◌∙◌, arith, refl}
use Rattle.resources_ip_block.specs.resources_chain.Sets.{Run}
use Rattle.resources_ip_prefix.specs.declared.prefix.Prefix.{Prefix}
use Rattle.resources_ip_prefix.specs.Address.{bits_of}
use Rattle.resources_ip_prefix.specs.Prefix.{prefix_addr, prefix_len, run_of_prefix, len_within, host_clear}
use Rattle.resources_ip_prefix.specs.Prefixes.{span_of, first_of, prefix_run}
use Rattle.resources_ip_prefix.specs.Text.{slashed}
use Rattle.resources_ip_block.specs.BlockText.{dashed, IsBlockText}
use Rattle.resources_ip_block.proofs.PrefixLemmas.{length_told}

-- One run is the run of prefixes of one length.
one_length : (addr len len' : ℕ) → len ≤ 128 → len' ≤ 128 → prefix_run addr len ≡ prefix_run addr len' → len ≡ len'
one_length addr len len' h h' e =
    let l : addr + (span_of len - 1) ≡ addr + (span_of len' - 1) = ap (λ (r : Run). r.last) e in
    length_told (span_of len - 1) len h refl ∙ sym (length_told (span_of len - 1) len' h' (omega (arith, l)))

pub prefix_text : (f : ℕ → List ℕ) (p : Prefix) → IsBlockText f (run_of_prefix p) (slashed (f (bits_of (prefix_addr p))) (prefix_len p))
prefix_text f p = record {
  prefix = λ len h clear same. ap (λ (k : ℕ). slashed (f (bits_of (prefix_addr p))) k) (sym (one_length (bits_of (prefix_addr p)) len (prefix_len p) h (len_within p) same));
  range = λ none. absurd (none (prefix_len p) (len_within p) (host_clear p) refl);
}

pub range_text : (f : ℕ → List ℕ) (r : Run) → ((addr len : ℕ) → len ≤ 128 → first_of len addr ≡ addr → ¬ (prefix_run addr len ≡ r)) → IsBlockText f r (dashed (f r.first) (f r.last))
range_text f r none = record {
  prefix = λ len h clear same. absurd (none r.first len h clear same);
  range = λ _. refl;
}
