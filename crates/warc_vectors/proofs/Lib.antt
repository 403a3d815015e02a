mod RefusalAsked
