mod NumberStates
