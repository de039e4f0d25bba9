mod SealedFacts
