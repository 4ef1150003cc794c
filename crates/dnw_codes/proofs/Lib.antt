mod DigitsLemmas
