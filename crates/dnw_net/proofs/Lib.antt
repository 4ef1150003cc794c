pub mod NetworkLemmas
pub mod SuffixLemmas
pub mod dnw_label_lemmas
