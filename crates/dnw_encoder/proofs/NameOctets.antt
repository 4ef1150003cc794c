-- The octets of names' labels. (Laws that contracts cite import nothing of this file, which leads to proofs of functions.)
use Rattle.std.proofs.Common.{◌≡◌, ◌∙◌, ℕ, Bool, cond, List, refl, ap}
use Rattle.std.specs.Str.{str_to_ascii_lowercase}
use Rattle.dnw_decoder.specs.dnw_name.DomainName.{DomainName, IsDomainName}
use Rattle.dnw_decoder.specs.dnw_label.Labels.{label_octets}
use Rattle.dnw_decoder.proofs.dnw_label_lemmas.LabelsLemmas.{lower-octets}
use Rattle.dnw_encoder.specs.declared.modes.NameEncoding.{NameEncoding}
use Rattle.dnw_encoder.specs.declared.modes.NameEncoding.TheVariants.{Compressed, Uncompressed, UncompressedLowercase}
use Rattle.dnw_encoder.specs.State.{is_lower}
use Rattle.dnw_encoder.specs.Names.{encoded_name}

-- The octets of a name's labels, as they are written.
pub encoded_octets : (encoding : NameEncoding) (name : DomainName) (lower : Bool) (octets : List ℕ) → IsDomainName name → lower ≡ is_lower encoding → octets ≡ label_octets name.labels → cond lower (str_to_ascii_lowercase octets) octets ≡ label_octets (encoded_name encoding name).labels
encoded_octets encoding name lower octets is e f =
    ap (λ (b : Bool). cond b (str_to_ascii_lowercase octets) octets) e ∙ ap (λ (o : List ℕ). cond (is_lower encoding) (str_to_ascii_lowercase o) o) f ∙ by encoding
  where
    by : (n : NameEncoding) → cond (is_lower n) (str_to_ascii_lowercase (label_octets name.labels)) (label_octets name.labels) ≡ label_octets (encoded_name n name).labels
    by Compressed = refl
    by Uncompressed = refl
    by UncompressedLowercase = lower-octets name.labels is.each
